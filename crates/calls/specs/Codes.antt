-- Questions of the codes of a class. Assumes nothing.
--
-- code_test q m  == q of the method's code, if it is implemented
-- class_test q k == of every method of the class
use Rattle.std.specs.Prelude.{Bool, ◌||◌, not}
use Rattle.rules.specs.Bytes.{Bytes, all}
use Rattle.rules.specs.Package.{Method, Class}

-- a question of a method's code, where it has one
abbrev pub code_test : (Bytes → Bool) → Method → Bool
code_test q m = not m.implemented || q m.code

-- a question of all codes of a class
abbrev pub class_test : (Bytes → Bool) → Class → Bool
class_test q k = all (code_test q) k.methods
