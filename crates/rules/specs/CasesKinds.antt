-- Rows of the table of cases: domains of kind 3, their creation and deletion, and the packages in them (request 9 of document 02).
-- Assumes nothing.
use Prim.Native.String.{String}
use Rattle.std.specs.Prelude.{true, false, List, [], ◌∷◌, ◌++◌, replicate}
use Rattle.rules.specs.Bytes.{Bytes}
use Rattle.rules.specs.Store.{version1, DomainKind, full, without_int, Entry, domain, loaded, write}
use Rattle.rules.specs.Operations.{Operation, create, delete, load, remove}
use Rattle.rules.specs.CasesForm.{hex, buffer, query, Step, fresh, fresh_limits, ◌answers◌, ◌gives◌used◌, ◌says◌yes◌, holds, Row, steps}
use Rattle.rules.specs.CasesFiles.{D1, D2, P1, bare}
use Rattle.rules.specs.CasesOpening.{limited}
use Rattle.rules.specs.CasesSubset.{of_code, both_kinds}

-- P1 with 09 7A as its one code
abbrev with_int : Bytes
with_int = of_code (hex "09 7A")

-- the second creation: 3, 0, 4, 21, and the bytes of kind 3
abbrev creation : List Step
creation =
    create without_int (hex "A0000000") gives 3 used 7
    ∷ create without_int (replicate 17 0xA0) gives 3 used 7
    ∷ create without_int D1 gives 0 used 15
    ∷ holds (hex "424353 0001 000F  03 0005 A0000000D1")
    ∷ create without_int D1 gives 4 used 15
    ∷ create without_int (replicate 16 0xA0) gives 0 used 34
    ∷ create without_int (replicate 16 0xA1) gives 0 used 53
    ∷ create without_int (replicate 9 0xA2) gives 21 used 53
    ∷ create without_int (replicate 8 0xA2) gives 0 used 64
    ∷ create without_int D2 gives 21 used 64
    ∷ create without_int (replicate 8 0xA2) gives 4 used 64
    ∷ []

-- a domain of the one kind, and then one of the other kind with the same AID: 4, in both orders and twice of one kind
abbrev same_aid_twice : String → DomainKind → DomainKind → Row
same_aid_twice name k h = steps name (write version1 64 []) (create k D1 gives 0 used 15 ∷ create h D1 gives 4 used 15 ∷ create h D2 gives 0 used 23 ∷ [])

abbrev creations : List Row
creations =
    steps "create without int: 3, 0, 4, 21" (write version1 64 []) creation
    ∷ steps "create without int in 63 bytes: 1" (replicate 63 0xFF) (create without_int D1 answers 1 ∷ holds (replicate 63 0xFF) ∷ [])
    ∷ steps "create without int in 65,536 bytes: 1" (replicate 65536 0xFF) (create without_int D1 answers 1 ∷ [])
    ∷ steps "create without int, no mark: 2" (replicate 64 0) (create without_int [] answers 2 ∷ create without_int D1 answers 2 ∷ holds [] ∷ fresh 0 ∷ create without_int D1 answers 0 ∷ [])
    ∷ steps "create without int: 4 before 21" (write version1 64 (domain full (replicate 16 0xA0) ∷ domain full (replicate 16 0xA1) ∷ domain full D1 ∷ domain without_int D2 ∷ [])) (create without_int D1 answers 4 ∷ create without_int D2 answers 4 ∷ create full D2 answers 4 ∷ create without_int P1 answers 21 ∷ [])
    ∷ same_aid_twice "4: kind 1, then kind 1" full full
    ∷ same_aid_twice "4: kind 1, then kind 3" full without_int
    ∷ same_aid_twice "4: kind 3, then kind 1" without_int full
    ∷ same_aid_twice "4: kind 3, then kind 3" without_int without_int
    ∷ steps "both creations, one behind the other" (write version1 64 []) (create full D1 answers 0 ∷ create without_int D2 answers 0 ∷ holds (hex "424353 0001 0017  01 0005 A0000000D1  03 0005 A0000000D2") ∷ [])
    ∷ steps "a kind-3 domain and a package of one AID" (write version1 64 []) (create without_int P1 gives 0 used 15 ∷ load P1 bare gives 0 used 42 ∷ remove P1 gives 0 used 15 ∷ delete P1 gives 0 used 7 ∷ [])
    ∷ []

-- deletion: 3, 5, 6, 0; the later entries move up
abbrev deletion : List Step
deletion =
    delete (hex "A0000000") gives 3 used 50
    ∷ delete P1 gives 5 used 50
    ∷ delete D1 gives 6 used 50
    ∷ delete D2 gives 0 used 42
    ∷ holds (hex "424353 0001 002A  03 0005 A0000000D1  02 0018 05A0000000D1" ++ bare)
    ∷ delete D2 gives 5 used 42
    ∷ load D2 bare gives 5 used 42
    ∷ remove P1 gives 0 used 15
    ∷ delete D1 gives 0 used 7
    ∷ holds (hex "424353 0001 0007")
    ∷ delete D1 gives 5 used 7
    ∷ []

-- a domain that is deleted and comes back as the other kind: what its packages must keep to is told by the kind that it has now
abbrev comes_back : String → DomainKind → DomainKind → List Step → List Step → Row
comes_back name k h first then = steps name (write version1 64 []) (create k D1 answers 0 ∷ first ++ delete D1 answers 0 ∷ create h D1 answers 0 ∷ then)

abbrev deletions : List Row
deletions =
    steps "delete a kind-3 domain: 3, 5, 6, 0" (write version1 64 (domain without_int D2 ∷ domain without_int D1 ∷ loaded D1 bare ∷ [])) deletion
    ∷ steps "delete of two kinds: the one that is named goes" both_kinds (delete D2 answers 0 ∷ holds (hex "424353 0001 000F  03 0005 A0000000D1") ∷ delete D1 answers 0 ∷ holds (hex "424353 0001 0007") ∷ [])
    ∷ comes_back "kind 3 comes back as kind 1" without_int full (load D1 with_int answers 26 ∷ []) (load D1 with_int answers 0 ∷ [])
    ∷ comes_back "kind 1 comes back as kind 3" full without_int (load D1 with_int answers 0 ∷ remove P1 answers 0 ∷ []) (load D1 with_int answers 26 ∷ load D1 bare answers 0 ∷ [])
    ∷ comes_back "kind 3 comes back as kind 3" without_int without_int [] (load D1 with_int answers 26 ∷ [])
    ∷ []

-- which domain asks for the subset: one of kind 3 that has this very AID, wherever its entry stands
abbrev loadings : List Row
loadings =
    steps "09 in kind 3: 26, and nothing is written" both_kinds (load D1 with_int gives 26 used 23 ∷ holds (hex "424353 0001 0017  03 0005 A0000000D1  01 0005 A0000000D2") ∷ load D2 with_int gives 0 used 61 ∷ [])
    ∷ steps "kind 3 behind kind 1" (write version1 128 (domain full D1 ∷ domain without_int D2 ∷ [])) (load D2 with_int answers 26 ∷ load D1 with_int answers 0 ∷ [])
    ∷ steps "the second of two kind-3 domains" (write version1 128 (domain without_int D1 ∷ domain without_int D2 ∷ [])) (load D2 with_int answers 26 ∷ load D1 with_int answers 26 ∷ load D2 bare answers 0 ∷ [])
    ∷ steps "a kind-1 domain whose AID goes on from a kind-3 one's" (write version1 128 (domain without_int D1 ∷ domain full (hex "A0000000D100") ∷ [])) (load (hex "A0000000D100") with_int answers 0 ∷ [])
    ∷ steps "a kind-3 domain whose AID goes on from a kind-1 one's: 26" (write version1 128 (domain full D1 ∷ domain without_int (hex "A0000000D100") ∷ [])) (load (hex "A0000000D100") with_int answers 26 ∷ load D1 with_int answers 0 ∷ [])
    ∷ steps "a kind-1 domain with the package's AID of kind 3" (write version1 128 (domain without_int P1 ∷ domain full D1 ∷ [])) (load D1 with_int answers 0 ∷ [])
    ∷ steps "a query of FE in a kind-3 domain" both_kinds (load D1 (hex "42504B 0001 001D  05A000000101  00  00  0000  01  00 00 01  E0 0001 01FE 0001 7A") answers 0 ∷ query D1 P1 0 0x0001 says 0 yes true ∷ query D2 P1 0 0x0001 says 0 yes false ∷ [])
    ∷ []

-- P1. Class 0: visible static 1, allowing every domain, with 09.
abbrev pub int_library : Bytes
int_library = hex "42504B 0001 001D  05A000000101  00  00  0000  01  00 00 01  E0 0001 FF 0002 097A"

-- P2 imports P1: its one method calls P1's 1
abbrev pub door_caller : Bytes
door_caller = hex "42504B 0001 0029  05A000000102  00  01 05A000000101  0001 01000001  01  00 00 01  60 0001 00 0004 8D00007A"

-- the same with 09 before the call
abbrev pub int_caller : Bytes
int_caller = hex "42504B 0001 002A  05A000000102  00  01 05A000000101  0001 01000001  01  00 00 01  60 0001 00 0005 098D00007A"

-- packages of both kinds of domains import and call one another
abbrev together : List Row
together =
    steps "kind 3 calls kind 1, which has 09" both_kinds (load D2 int_library answers 0 ∷ load D1 int_caller answers 26 ∷ load D1 door_caller answers 0 ∷ [])
    ∷ steps "kind 1 calls kind 3" (write version1 128 (domain without_int D1 ∷ domain full D2 ∷ loaded D1 (hex "42504B 0001 001C  05A000000101  00  00  0000  01  00 00 01  E0 0001 FF 0001 7A") ∷ [])) (load D2 int_caller answers 0 ∷ [])
    ∷ steps "kind 3 below a class of kind 1, which has 09" both_kinds (load D2 int_library answers 0 ∷ load D1 (hex "42504B 0001 0024  05A000000102  00  01 05A000000101  0000  01  00 01 0100 01  60 0002 00 0001 7A") answers 0 ∷ [])
    ∷ steps "the domain of the import does not matter" both_kinds (load D1 int_library answers 26 ∷ load D2 int_library answers 0 ∷ load D2 int_caller answers 0 ∷ [])
    ∷ []

-- soundness asks 4 of both kinds, and 26
abbrev soundness : List Row
soundness =
    steps "a kind-3 domain by its bytes" (buffer 64 (hex "424353 0001 000F 03 0005 A0000000D1")) (create full D1 answers 4 ∷ create without_int D2 answers 0 ∷ [])
    ∷ steps "kind 0: 2" (buffer 64 (hex "424353 0001 000F 00 0005 A0000000D1")) (create without_int D2 answers 2 ∷ [])
    ∷ steps "a kind-3 domain's AID of 4 bytes: 2" (write version1 64 (domain without_int (hex "A0000000") ∷ [])) (create without_int D2 answers 2 ∷ [])
    ∷ steps "a kind-3 domain's AID of 17 bytes: 2" (write version1 64 (domain without_int (replicate 17 0xA0) ∷ [])) (create without_int D2 answers 2 ∷ [])
    ∷ steps "kinds 1 and 3 of one AID stored: 2" (write version1 64 (domain full D1 ∷ domain without_int D1 ∷ [])) (create full D2 answers 2 ∷ [])
    ∷ steps "kinds 3 and 1 of one AID stored: 2" (write version1 64 (domain without_int D1 ∷ domain full D1 ∷ [])) (create full D2 answers 2 ∷ [])
    ∷ steps "a kind-3 domain twice: 2" (write version1 64 (domain without_int D1 ∷ domain without_int D1 ∷ [])) (create full D2 answers 2 ∷ [])
    ∷ steps "09 stored in a kind-3 domain: 2" (write version1 64 (domain without_int D1 ∷ loaded D1 with_int ∷ [])) (create full D2 answers 2 ∷ [])
    ∷ steps "09 stored in a kind-1 domain" (write version1 64 (domain full D1 ∷ loaded D1 with_int ∷ [])) (create full D2 answers 0 ∷ [])
    ∷ steps "09 stored in a kind-1 domain behind a kind-3 one" (write version1 128 (domain without_int D2 ∷ domain full D1 ∷ loaded D1 with_int ∷ [])) (create full P1 answers 0 ∷ [])
    ∷ steps "09 stored, the kind-3 domain behind it: 2" (write version1 128 (domain full D1 ∷ loaded D1 with_int ∷ domain without_int D1 ∷ [])) (create full D2 answers 2 ∷ [])
    ∷ steps "a package before its kind-3 domain: 2" (write version1 64 (loaded D1 bare ∷ domain without_int D1 ∷ [])) (create full D2 answers 2 ∷ [])
    ∷ []

-- a store of version 2 has both kinds too
abbrev second_version : List Row
second_version =
    steps "create without int in a store of version 2" (replicate 128 0xFF) (
    fresh_limits 3 2 16 0
    ∷ create without_int D1 gives 0 used 19
    ∷ holds (hex "424353 0002 0013 03 02 0010  03 0005 A0000000D1")
    ∷ create full D1 gives 4 used 19
    ∷ create full D2 gives 0 used 27
    ∷ load D1 with_int gives 26 used 27
    ∷ load D2 with_int gives 0 used 65
    ∷ delete D1 gives 0 used 57
    ∷ delete D2 gives 6 used 57
    ∷ [])
    ∷ steps "09 stored in a kind-3 domain, version 2: 2" (write (limited 3 2 16) 128 (domain without_int D1 ∷ loaded D1 with_int ∷ [])) (create full D2 answers 2 ∷ [])
    ∷ steps "21 in a store of version 2, without int" (write (limited 1 1 1) 64 (domain without_int (replicate 16 0xA0) ∷ domain full (replicate 16 0xA1) ∷ [])) (create without_int (replicate 13 0xA2) answers 21 ∷ create without_int (replicate 12 0xA2) gives 0 used 64 ∷ [])
    ∷ []

-- the calls that install the two packages in domains of two kinds, and the ledger after these (proofs/WitnessKinds)
abbrev pub installing_kinds : List Operation
installing_kinds = create full D1 ∷ create without_int D2 ∷ load D2 int_library ∷ load D1 int_library ∷ load D2 int_caller ∷ load D2 door_caller ∷ []

abbrev pub kind_packages : List Entry
kind_packages = domain full D1 ∷ domain without_int D2 ∷ loaded D1 int_library ∷ loaded D2 door_caller ∷ []

-- the rows of this file
abbrev pub kinds : List Row
kinds = creations ++ deletions ++ loadings ++ together ++ soundness ++ second_version
