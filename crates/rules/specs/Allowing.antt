-- What a method allows, by document 01's sentence and request 2's: a twin of `allows`. Assumes nothing.
--
-- Allowing m a == the method m, where it stands, allows the AID a: with FF, by an index, or as FE
use Rattle.std.specs.Prelude.{◌≡◌}
use mathlib.Core.List.{List, Memᴰ}
use Rattle.rules.specs.Bytes.{Aid}
use Rattle.rules.specs.Package.{Item, listed, own_domain, every, only}
use Rattle.rules.specs.Classes.{MethodAt}

-- FF allows every AID; an index the AID that it stands for; FE the domain that the method's own package lies in
pub data Allowing (m : MethodAt) (a : Aid) : Type 0 where
  by_ff : m.method.policy ≡ every → Allowing m a
  by_index : (xs : List Item) → m.method.policy ≡ only xs → Memᴰ (listed a) xs → Allowing m a
  by_fe : (xs : List Item) → m.method.policy ≡ only xs → Memᴰ own_domain xs → a ≡ m.class.home.domain → Allowing m a
