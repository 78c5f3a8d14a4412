-- Rows of the table of cases: calls that name an inheriting class (request 3 of document 02). Assumes nothing.
--
-- In most rows a static caller, allowing none, calls class X's method n by the one reference, to X and n; what the search finds shows in the
-- answer: a declaration allowing every domain passes, one allowing none is 19.
-- file_of h r n k t                    == a file: up to its references, the reference, how many classes, and these, then one with the caller
-- calling, importing_one, importing_two == rows of such a file: of P1, of P2 that imports P1, of P3 that imports P2, which imports P1
use Rattle.std.specs.Prelude.{ℕ, suc, ◌+◌, List, [], ◌∷◌, ◌++◌, length}
use Prim.Native.String.{String}
use Rattle.rules.specs.Bytes.{Bytes, Aid, high, low}
use Rattle.rules.specs.Code.{CallKind, virtual, special, static, interface}
use Rattle.rules.specs.Store.{version1, version2, full, Entry, domain, loaded, write}
use Rattle.rules.specs.Operations.{Operation, create, load, remove}
use Rattle.rules.specs.CasesForm.{hex, ◌answers◌, Row, steps}
use Rattle.rules.specs.CasesFiles.{D1, D2, domains_only, alone}

-- a code that calls reference 0, with its length
abbrev code_by : CallKind → Bytes
code_by virtual = hex "0004 8B0000 7A"
code_by special = hex "0004 8C0000 7A"
code_by static = hex "0004 8D0000 7A"
code_by interface = hex "0006 8E00000000 7A"

-- mark, version and size before the rest
abbrev sized_file : Bytes → Bytes
sized_file b = hex "42504B 0001" ++ high (length b + 7) ∷ low (length b + 7) ∷ b

abbrev pub file_of : String → String → ℕ → CallKind → String → Bytes
file_of h r n k t = sized_file (hex h ++ hex "0001" ++ hex r ++ suc n ∷ hex t ++ hex "00 00 01  60 0001 00" ++ code_by k)

abbrev calling : String → CallKind → String → ℕ → String → ℕ → Row
calling name k r n t a = steps name domains_only (load D1 (file_of "05A000000101  00  00" r n k t) answers a ∷ [])

-- the order of the search; where two declarations are told apart, the second row has their policies exchanged
abbrev order : List Row
order =
    calling "the class named before its parent" virtual "00010007" 2 "00 00 01  00 0007 00  00 01 0000 01  00 0007 FF" 0
    ∷ calling "the class named before its parent: 19" virtual "00010007" 2 "00 00 01  00 0007 FF  00 01 0000 01  00 0007 00" 19
    ∷ calling "a kind-0 parent declares it" virtual "00010007" 2 "00 00 01  00 0007 FF  00 01 0000 00" 0
    ∷ calling "the nearest of the kind-0 chain" virtual "00020007" 3 "00 00 01  00 0007 00  00 01 0000 01  00 0007 FF  00 01 0001 00" 0
    ∷ calling "the nearest of the kind-0 chain: 19" virtual "00020007" 3 "00 00 01  00 0007 FF  00 01 0000 01  00 0007 00  00 01 0001 00" 19
    ∷ calling "an interface of the class named declares it" virtual "00010005" 2 "01 00 01  00 0005 FF  00 01 0000 00" 0
    ∷ calling "an interface of a chain member declares it" virtual "00020005" 3 "01 00 01  00 0005 FF  00 01 0000 00  00 01 0001 00" 0
    ∷ calling "the second of two interfaces declares it" virtual "00020005" 3 "01 00 00  01 00 01  00 0005 FF  00 02 0000 0001 00" 0
    ∷ calling "an interface's parent declares it" virtual "00020005" 3 "01 00 01  00 0005 FF  01 01 0000 00  00 01 0001 00" 0
    ∷ calling "the kind-0 parent before an interface listed first" virtual "00020007" 3 "01 00 01  00 0007 00  00 00 01  00 0007 FF  00 02 0000 0001 00" 0
    ∷ calling "the kind-0 parent before an interface listed first: 19" virtual "00020007" 3 "01 00 01  00 0007 FF  00 00 01  00 0007 00  00 02 0000 0001 00" 19
    ∷ calling "the whole chain before an interface of the class named" virtual
    "00030007" 4 "00 00 01  00 0007 FF  00 01 0000 00  01 00 01  00 0007 00  00 02 0002 0001 00" 0
    ∷ calling "the whole chain before an interface of the class named: 19" virtual
    "00030007" 4 "00 00 01  00 0007 00  00 01 0000 00  01 00 01  00 0007 FF  00 02 0002 0001 00" 19
    ∷ calling "the class named before its kind-0 parent, in interfaces" virtual
    "00030005" 4 "01 00 01  00 0005 00  01 00 01  00 0005 FF  00 01 0000 00  00 02 0002 0001 00" 0
    ∷ calling "the class named before its kind-0 parent, in interfaces: 19" virtual
    "00030005" 4 "01 00 01  00 0005 FF  01 00 01  00 0005 00  00 01 0000 00  00 02 0002 0001 00" 19
    ∷ calling "interfaces in listed order" virtual "00020005" 3 "01 00 01  00 0005 00  01 00 01  00 0005 FF  00 02 0001 0000 00" 0
    ∷ calling "interfaces in listed order: 19" virtual "00020005" 3 "01 00 01  00 0005 FF  01 00 01  00 0005 00  00 02 0001 0000 00" 19
    ∷ calling "an interface before its own parents" virtual "00020005" 3 "01 00 01  00 0005 00  01 01 0000 01  00 0005 FF  00 01 0001 00" 0
    ∷ calling "an interface before its own parents: 19" virtual "00020005" 3 "01 00 01  00 0005 FF  01 01 0000 01  00 0005 00  00 01 0001 00" 19
    ∷ calling "an interface's own parents before the next one listed" virtual
    "00030005" 4 "01 00 01  00 0005 FF  01 01 0000 00  01 00 01  00 0005 00  00 02 0001 0002 00" 0
    ∷ calling "an interface's own parents before the next one listed: 19" virtual
    "00030005" 4 "01 00 01  00 0005 00  01 01 0000 00  01 00 01  00 0005 FF  00 02 0001 0002 00" 19
    ∷ calling "an interface reached twice" virtual "00030005" 4 "01 00 01  00 0005 FF  01 01 0000 00  01 01 0000 00  00 02 0001 0002 00" 0
    ∷ calling "a named interface before its parents" interface "00010005" 2 "01 00 01  00 0005 00  01 01 0000 01  00 0005 FF" 0
    ∷ calling "a named interface before its parents: 19" interface "00010005" 2 "01 00 01  00 0005 FF  01 01 0000 01  00 0005 00" 19
    ∷ calling "a named interface's parents depth first" interface "00030005" 4 "01 00 01  00 0005 FF  01 01 0000 00  01 00 01  00 0005 00  01 02 0001 0002 00" 0
    ∷ calling "a named interface's parents depth first: 19" interface
    "00030005" 4 "01 00 01  00 0005 00  01 01 0000 00  01 00 01  00 0005 FF  01 02 0001 0002 00" 19
    ∷ calling "a name that no class searched declares: 18" virtual "00020009" 3 "00 00 01  00 0007 FF  01 00 01  00 0005 FF  00 02 0000 0001 00" 18
    ∷ calling "a name declared below alone: 18" virtual "00000007" 2 "00 00 00  00 01 0000 01  00 0007 FF" 18
    ∷ calling "a name declared beside alone: 18" virtual "00020007" 3 "00 00 00  00 01 0000 01  00 0007 FF  00 01 0000 00" 18
    ∷ calling "a class that is not there: 18" virtual "00090007" 1 "00 00 01  00 0007 FF" 18
    ∷ []

-- the form of the declaration found; one of another form ends the search
abbrev forms : List Row
forms =
    calling "8B: a non-static declaration before a static one" virtual "00020007" 3 "00 00 01  60 0007 FF 0001 7A  00 01 0000 01  00 0007 FF  00 01 0001 00" 0
    ∷ calling "8B: a static declaration ends the search: 18" virtual "00020007" 3 "00 00 01  00 0007 FF  00 01 0000 01  60 0007 FF 0001 7A  00 01 0001 00" 18
    ∷ calling "8B naming an interface: 18" virtual "00000005" 1 "01 00 01  00 0005 FF" 18
    ∷ calling "8B naming an interface under the one that declares it: 18" virtual "00010005" 2 "01 00 01  00 0005 FF  01 01 0000 00" 18
    ∷ calling "8C: an implemented method inherited" special "00010007" 2 "00 00 01  40 0007 FF 0001 7A  00 01 0000 00" 0
    ∷ calling "8C: a static method inherited" special "00010007" 2 "00 00 01  60 0007 FF 0001 7A  00 01 0000 00" 0
    ∷ calling "8C: an unimplemented declaration ends the search: 18" special
    "00020007" 3 "00 00 01  40 0007 FF 0001 7A  00 01 0000 01  00 0007 FF  00 01 0001 00" 18
    ∷ calling "8C: an interface's declaration: 18" special "00010005" 2 "01 00 01  00 0005 FF  00 01 0000 00" 18
    ∷ calling "8D: a static method inherited" static "00020007" 3 "00 00 01  00 0007 FF  00 01 0000 01  60 0007 FF 0001 7A  00 01 0001 00" 0
    ∷ calling "8D: a non-static declaration ends the search: 18" static "00020007" 3 "00 00 01  60 0007 FF 0001 7A  00 01 0000 01  00 0007 FF  00 01 0001 00" 18
    ∷ calling "8E naming a class, an interface declares it" interface "00010005" 2 "01 00 01  00 0005 FF  00 01 0000 00" 0
    ∷ calling "8E naming a class, an interface of a chain member declares it" interface "00020005" 3 "01 00 01  00 0005 FF  00 01 0000 00  00 01 0001 00" 0
    ∷ calling "8E: a class's declaration: 18" interface "00010007" 2 "00 00 01  00 0007 FF  00 01 0000 00" 18
    ∷ calling "8E: a class's declaration before an interface's: 18" interface "00020005" 3 "01 00 01  00 0005 FF  00 00 01  00 0005 FF  00 02 0000 0001 00" 18
    ∷ calling "8B: a class's declaration before an interface's" virtual "00020005" 3 "01 00 01  00 0005 FF  00 00 01  00 0005 FF  00 02 0000 0001 00" 0
    ∷ []

-- question 19, at the declaration found
abbrev rights : List Row
rights =
    calling "19: at the declaration, not at what runs" virtual "00000007" 2 "00 00 01  00 0007 00  00 01 0000 01  40 0007 FF 0001 7A" 19
    ∷ alone "19: an inherited declaration allows D1, and so does the caller"
    "42504B 0001 0034  05A000000101  01 05A0000000D1  00  0001 00010007  02  00 00 01  00 0007 0100  00 01 0000 01  60 0001 0100 0004 8B00007A" 0
    ∷ alone "19: an inherited declaration allows D1, the caller every domain: 19"
    "42504B 0001 0033  05A000000101  01 05A0000000D1  00  0001 00010007  02  00 00 01  00 0007 0100  00 01 0000 01  60 0001 FF 0004 8B00007A" 19
    ∷ []

-- ten classes, each further one under the one before
abbrev ten_deep : Bytes
ten_deep = file_of "05A000000101  00  00" "00090007" 10 virtual
    "00 00 01  00 0007 FF  00 01 0000 00  00 01 0001 00  00 01 0002 00  00 01 0003 00  00 01 0004 00  00 01 0005 00  00 01 0006 00  00 01 0007 00  00 01 0008 00"

-- as deep as the limit lets a class be
abbrev depths : List Row
depths =
    calling "seven kind-0 parents up" virtual
    "00070007" 8 "00 00 01  00 0007 FF  00 01 0000 00  00 01 0001 00  00 01 0002 00  00 01 0003 00  00 01 0004 00  00 01 0005 00  00 01 0006 00" 0
    ∷ calling "seven interfaces up" virtual
    "00070005" 8 "01 00 01  00 0005 FF  01 01 0000 00  01 01 0001 00  01 01 0002 00  01 01 0003 00  01 01 0004 00  01 01 0005 00  00 01 0006 00" 0
    ∷ steps "nine kind-0 parents up, the limit being 10" (write (version2 (record { depth = 10; parents = 4; code = 4096 })) 160 (domain full D1 ∷ []))
    (load D1 ten_deep answers 0 ∷ [])
    ∷ []

-- P1. Class 0: visible 7 allowing every domain, invisible 8 allowing every domain, visible 9 allowing none. Class 1, below it: invisible 7.
abbrev above : Bytes
above = hex "42504B 0001 002A  05A000000101  00  00  0000  02  00 00 03  80 0007 FF  00 0008 FF  80 0009 00  00 01 0000 01  00 0007 FF"

-- P2, importing P1. Class 0, below P1's class 0: invisible 000A.
abbrev between : Bytes
between = hex "42504B 0001 0021  05A000000102  00  01 05A000000101  0000  01  00 01 0100 01  00 000A FF"

abbrev importing_one : String → String → ℕ → String → ℕ → Row
importing_one name r n t a = steps name (write version1 256 (domain full D1 ∷ loaded D1 above ∷ []))
    (load D1 (file_of "05A000000102  00  01 05A000000101" r n virtual t) answers a ∷ [])

abbrev importing_two : String → String → ℕ → String → ℕ → Row
importing_two name r n t a = steps name (write version1 256 (domain full D1 ∷ loaded D1 above ∷ loaded D1 between ∷ []))
    (load D1 (file_of "05A000000103  00  01 05A000000102" r n virtual t) answers a ∷ [])

-- where the declaration lies: in an imported package, or in a third one that is not imported directly
abbrev imported : List Row
imported =
    importing_one "imported: a visible declaration" "01000007" 0 "" 0
    ∷ importing_one "imported: an invisible declaration ends the search: 18" "01010007" 0 "" 18
    ∷ importing_one "imported: an invisible declaration of a parent: 18" "01010008" 0 "" 18
    ∷ importing_one "an own class inherits a visible imported declaration" "00000007" 1 "00 01 0100 00" 0
    ∷ importing_one "an own class inherits an invisible imported declaration: 18" "00000008" 1 "00 01 0100 00" 18
    ∷ importing_one "an own class inherits an imported declaration allowing none: 19" "00000009" 1 "00 01 0100 00" 19
    ∷ importing_one "an own class under one with an invisible declaration: 18" "00000007" 1 "00 01 0101 00" 18
    ∷ importing_one "an own invisible declaration before an imported one" "00000009" 1 "00 01 0100 01  00 0009 FF" 0
    ∷ importing_two "a third package: a visible declaration" "01000007" 0 "" 0
    ∷ importing_two "a third package: an invisible declaration: 18" "01000008" 0 "" 18
    ∷ importing_two "a third package: a declaration allowing none: 19" "01000009" 0 "" 19
    ∷ importing_two "a third package: an invisible declaration of the one imported: 18" "0100000A" 0 "" 18
    ∷ importing_two "a third package, by way of an own class" "00000007" 1 "00 01 0100 00" 0
    ∷ importing_two "a third package, invisible, by way of an own class: 18" "00000008" 1 "00 01 0100 00" 18
    ∷ importing_two "a third package, allowing none, by way of an own class: 19" "00000009" 1 "00 01 0100 00" 19
    ∷ []

-- a store with a call by 8B of an inherited method, which is static in the second
abbrev inherits : Bytes
inherits = write version1 128 (domain full D1 ∷ loaded D1 (file_of "05A000000101  00  00" "00010007" 2 virtual "00 00 01  00 0007 FF  00 01 0000 00") ∷ [])

abbrev inherits_static : Bytes
inherits_static = write version1 128 (domain full D1 ∷ loaded D1 (file_of "05A000000101  00  00" "00010007" 2 virtual "00 00 01  60 0007 FF 0001 7A  00 01 0000 00") ∷ [])

-- soundness asks the same
abbrev stored : List Row
stored =
    steps "a stored 8B of an inherited method" inherits (create full D2 answers 0 ∷ [])
    ∷ steps "a stored 8B of an inherited static method: 2" inherits_static (create full D2 answers 2 ∷ [])
    ∷ []

-- Three packages, the third calling inherited methods of the first, which it does not import. P1. Class 0: 7, and static 9. Class 1, below it:
-- 7 again. Class 2, an interface: 5. Class 3, below it: 5. All methods here and below allow every domain.
abbrev declaring : Bytes
declaring = hex "42504B 0001 0042  05A000000101  00  00  0000  04  00 00 02  C0 0007 FF 0001 7A  E0 0009 FF 0001 7A  00 01 0000 01  C0 0007 FF 0001 7A  01 00 01  80 0005 FF  00 01 0002 01  C0 0005 FF 0001 7A"

-- P2, importing P1. Class 0, below P1's classes 0 and 2, declares nothing. Class 1, below it: 7 and 5.
abbrev inheriting : Bytes
inheriting = hex "42504B 0001 0032  05A000000102  00  01 05A000000101  0000  02  00 02 0100 0102 00  00 01 0000 02  C0 0007 FF 0001 7A  C0 0005 FF 0001 7A"

-- P3, importing P2. Statics 1, 2 and 3 call 7, 7 and 9 of P2's class 0 by 8B, 8C and 8D, statics 4 and 6 call 5 of it by 8B and 8E.
abbrev naming : Bytes
naming = hex "42504B 0001 005B  05A000000103  00  01 05A000000102  0003 01000007 01000009 01000005  01  00 00 05  E0 0001 FF 0004 8B00007A  E0 0002 FF 0004 8C00007A  E0 0003 FF 0004 8D00017A  E0 0004 FF 0004 8B00027A  E0 0006 FF 0006 8E000002007A"

-- the calls that install them in two domains, and the ledger after these (proofs/WitnessSearch)
abbrev pub installing_searched : List Operation
installing_searched = create full D1 ∷ create full D2 ∷ load D1 declaring ∷ load D2 inheriting ∷ load D1 naming ∷ []

abbrev pub searched_packages : List Entry
searched_packages = domain full D1 ∷ domain full D2 ∷ loaded D1 declaring ∷ loaded D2 inheriting ∷ loaded D1 naming ∷ []

-- P4, without classes, and the calls that load and remove it while the others stay
abbrev pub P4 : Aid
P4 = hex "A000000104"

abbrev pub fourth : Bytes
fourth = hex "42504B 0001 0012  05A000000104  00  00  0000  00"

abbrev pub passing : List Operation
passing = load D2 fourth ∷ remove P4 ∷ []

-- the rows of this file
abbrev pub searches : List Row
searches = order ++ forms ++ rights ++ depths ++ imported ++ stored
