-- Rows of the table of cases: index FE, "my own domain" (request 2 of document 02). Assumes nothing.
use Rattle.std.specs.Prelude.{ℕ, true, false, List, [], ◌∷◌, ◌++◌}
use Prim.Native.String.{String}
use Rattle.rules.specs.Bytes.{Bytes, Aid}
use Rattle.rules.specs.Store.{version1, full, Entry, domain, loaded, write}
use Rattle.rules.specs.Operations.{Operation, create, load, remove}
use Rattle.rules.specs.CasesForm.{hex, query, ◌answers◌, ◌says◌yes◌, Row, steps}
use Rattle.rules.specs.CasesFiles.{D1, D2, P1, P2, alone}

-- P1. Class 0, kind 0: visible static 1 and visible non-static 7, each allowing FE alone.
abbrev allows_own : Bytes
allows_own = hex "42504B 0001 0025  05A000000101  00  00  0000  01  00 00 02  E0 0001 01FE 0001 7A  C0 0007 01FE 0001 7A"

-- P1. Class 0, kind 0: visible non-static 7 allowing D2, two domains that are not created, and FE.
abbrev allows_four : Bytes
allows_four = hex "42504B 0001 0032  05A000000101  03 05A0000000D2 05A0000000D3 05A0000000D4  00  0000  01  00 00 01  C0 0007 04000102FE 0001 7A"

-- a file loaded beside P1, which lies in D1
abbrev beside : Bytes → String → Aid → String → ℕ → Row
beside p name d t k = steps name (write version1 256 (domain full D1 ∷ domain full D2 ∷ loaded D1 p ∷ [])) (load d (hex t) answers k ∷ [])

abbrev beside_own : String → Aid → String → ℕ → Row
beside_own = beside allows_own

abbrev beside_four : String → Aid → String → ℕ → Row
beside_four = beside allows_four

-- question 11
abbrev reading : List Row
reading =
    alone "FE with domain count 0" "42504B 0001 001D  05A000000101  00  00  0000  01  00 00 01  60 0001 01FE 0001 7A" 0
    ∷ alone "FE among indexes, and twice" "42504B 0001 0025  05A000000101  01 05A0000000D1  00  0000  01  00 00 01  60 0001 03FE00FE 0001 7A" 0
    ∷ alone "allowed count FE: 11" "42504B 0001 001C  05A000000101  00  00  0000  01  00 00 01  60 0001 FE 0001 7A" 11
    ∷ alone "allowed count FE and 254 indexes: 11" "42504B 0001 001F  05A000000101  00  00  0000  01  00 00 01  60 0001 FEFEFEFE 0001 7A" 11
    ∷ alone "index FD: 11" "42504B 0001 001D  05A000000101  00  00  0000  01  00 00 01  60 0001 01FD 0001 7A" 11
    ∷ alone "index FF: 11" "42504B 0001 001D  05A000000101  00  00  0000  01  00 00 01  60 0001 01FF 0001 7A" 11
    ∷ alone "32 times FE" "42504B 0001 003C  05A000000101  00  00  0000  01  00 00 01  60 0001 20FEFEFEFEFEFEFEFEFEFEFEFEFEFEFEFEFEFEFEFEFEFEFEFEFEFEFEFEFEFEFEFE 0001 7A" 0
    ∷ alone "33 times FE: 11" "42504B 0001 003D  05A000000101  00  00  0000  01  00 00 01  60 0001 21FEFEFEFEFEFEFEFEFEFEFEFEFEFEFEFEFEFEFEFEFEFEFEFEFEFEFEFEFEFEFEFEFE 0001 7A" 11
    ∷ []

-- in one file, loaded in D1: questions 19 and 20
abbrev inside : List Row
inside =
    alone "in one file: both FE" "42504B 0001 002C  05A000000101  00  00  0001 00000002  01  00 00 02  60 0001 01FE 0004 8D00007A  60 0002 01FE 0001 7A" 0
    ∷ alone "the caller lists the loading domain by its index, the called method FE" "42504B 0001 0032  05A000000101  01 05A0000000D1  00  0001 00000002  01  00 00 02  60 0001 0100 0004 8D00007A  60 0002 01FE 0001 7A" 0
    ∷ alone "the caller lists FE, the called method the loading domain by its index" "42504B 0001 0032  05A000000101  01 05A0000000D1  00  0001 00000002  01  00 00 02  60 0001 01FE 0004 8D00007A  60 0002 0100 0001 7A" 0
    ∷ alone "the caller lists FE, the called method another domain: 19" "42504B 0001 0032  05A000000101  01 05A0000000D2  00  0001 00000002  01  00 00 02  60 0001 01FE 0004 8D00007A  60 0002 0100 0001 7A" 19
    ∷ alone "the caller lists another domain, the called method FE: 19" "42504B 0001 0032  05A000000101  01 05A0000000D2  00  0001 00000002  01  00 00 02  60 0001 0100 0004 8D00007A  60 0002 01FE 0001 7A" 19
    ∷ alone "the caller lists FE, the called method every domain" "42504B 0001 002B  05A000000101  00  00  0001 00000002  01  00 00 02  60 0001 01FE 0004 8D00007A  60 0002 FF 0001 7A" 0
    ∷ alone "the caller lists every domain, the called method FE: 19" "42504B 0001 002B  05A000000101  00  00  0001 00000002  01  00 00 02  60 0001 FF 0004 8D00007A  60 0002 01FE 0001 7A" 19
    ∷ alone "the called method lists nothing: 19" "42504B 0001 002B  05A000000101  00  00  0001 00000002  01  00 00 02  60 0001 01FE 0004 8D00007A  60 0002 00 0001 7A" 19
    ∷ alone "what runs lists FE, the interface the loading domain by its index" "42504B 0001 002D  05A000000101  01 05A0000000D1  00  0000  02  01 00 01  80 0007 0100  00 01 0000 01  C0 0007 01FE 0001 7A" 0
    ∷ alone "what runs lists the loading domain by its index, the interface FE" "42504B 0001 002D  05A000000101  01 05A0000000D1  00  0000  02  01 00 01  80 0007 01FE  00 01 0000 01  C0 0007 0100 0001 7A" 0
    ∷ alone "what runs lists another domain, the interface FE: 20" "42504B 0001 002D  05A000000101  01 05A0000000D2  00  0000  02  01 00 01  80 0007 01FE  00 01 0000 01  C0 0007 0100 0001 7A" 20
    ∷ alone "what runs lists FE, the interface another domain: 20" "42504B 0001 002D  05A000000101  01 05A0000000D2  00  0000  02  01 00 01  80 0007 0100  00 01 0000 01  C0 0007 01FE 0001 7A" 20
    ∷ alone "what runs lists FE, the interface every domain: 20" "42504B 0001 0026  05A000000101  00  00  0000  02  01 00 01  80 0007 FF  00 01 0000 01  C0 0007 01FE 0001 7A" 20
    ∷ []

-- beside a package that allows FE and lies in D1: questions 19 and 20
abbrev across : List Row
across =
    beside_own "D1 calls what allows its own domain" D1 "42504B 0001 0029  05A000000102  00  01 05A000000101  0001 01000001  01  00 00 01  60 0001 00 0004 8D00007A" 0
    ∷ beside_own "D2 calls it, FE meaning the domain that it lies in: 19" D2 "42504B 0001 0029  05A000000102  00  01 05A000000101  0001 01000001  01  00 00 01  60 0001 00 0004 8D00007A" 19
    ∷ beside_own "the caller lists FE too, in D1" D1 "42504B 0001 002A  05A000000102  00  01 05A000000101  0001 01000001  01  00 00 01  60 0001 01FE 0004 8D00007A" 0
    ∷ beside_own "the caller lists FE too, in D2: 19" D2 "42504B 0001 002A  05A000000102  00  01 05A000000101  0001 01000001  01  00 00 01  60 0001 01FE 0004 8D00007A" 19
    ∷ beside_own "the caller lists D1 by its index" D1 "42504B 0001 0030  05A000000102  01 05A0000000D1  01 05A000000101  0001 01000001  01  00 00 01  60 0001 0100 0004 8D00007A" 0
    ∷ beside_own "the caller lists D2: 19" D1 "42504B 0001 0030  05A000000102  01 05A0000000D2  01 05A000000101  0001 01000001  01  00 00 01  60 0001 0100 0004 8D00007A" 19
    ∷ beside_own "the caller lists every domain: 19" D1 "42504B 0001 0029  05A000000102  00  01 05A000000101  0001 01000001  01  00 00 01  60 0001 FF 0004 8D00007A" 19
    ∷ beside_own "what runs lists FE, in D1" D1 "42504B 0001 0025  05A000000102  00  01 05A000000101  0000  01  00 01 0100 01  40 0007 01FE 0001 7A" 0
    ∷ beside_own "what runs lists FE, in D2: 20" D2 "42504B 0001 0025  05A000000102  00  01 05A000000101  0000  01  00 01 0100 01  40 0007 01FE 0001 7A" 20
    ∷ beside_own "what runs lists FE and D1, in D2" D2 "42504B 0001 002C  05A000000102  01 05A0000000D1  01 05A000000101  0000  01  00 01 0100 01  40 0007 02FE00 0001 7A" 0
    ∷ beside_own "what runs lists D1 alone, in D2" D2 "42504B 0001 002B  05A000000102  01 05A0000000D1  01 05A000000101  0000  01  00 01 0100 01  40 0007 0100 0001 7A" 0
    ∷ []

-- the same, where lists are long
abbrev longer : List Row
longer =
    beside_four "four items: the same list, in D1" D1 "42504B 0001 003A  05A000000102  03 05A0000000D2 05A0000000D3 05A0000000D4  01 05A000000101  0000  01  00 01 0100 01  40 0007 04000102FE 0001 7A" 0
    ∷ beside_four "four items: the same list, in D2: 20" D2 "42504B 0001 003A  05A000000102  03 05A0000000D2 05A0000000D3 05A0000000D4  01 05A000000101  0000  01  00 01 0100 01  40 0007 04000102FE 0001 7A" 20
    ∷ beside_four "four items: D1 by its index, in D2" D2 "42504B 0001 0040  05A000000102  04 05A0000000D2 05A0000000D3 05A0000000D4 05A0000000D1  01 05A000000101  0000  01  00 01 0100 01  40 0007 0400010203 0001 7A" 0
    ∷ beside_four "four items: another order, FE first, in D1" D1 "42504B 0001 003A  05A000000102  03 05A0000000D4 05A0000000D3 05A0000000D2  01 05A000000101  0000  01  00 01 0100 01  40 0007 04FE000102 0001 7A" 0
    ∷ beside_four "four items: another order, FE first, in D2: 20" D2 "42504B 0001 003A  05A000000102  03 05A0000000D4 05A0000000D3 05A0000000D2  01 05A000000101  0000  01  00 01 0100 01  40 0007 04FE000102 0001 7A" 20
    ∷ beside_four "four items: D1 by its index too, FE for D2" D2 "42504B 0001 003A  05A000000102  03 05A0000000D1 05A0000000D4 05A0000000D3  01 05A000000101  0000  01  00 01 0100 01  40 0007 04FE000102 0001 7A" 0
    ∷ []

-- the query, and a package that lies elsewhere later
abbrev queries : List Row
queries =
    steps "a query of FE" (write version1 256 (domain full D1 ∷ domain full D2 ∷ loaded D1 allows_own ∷ [])) (query D1 P1 0 0x0001 says 0 yes true ∷ query D2 P1 0 0x0001 says 0 yes false ∷ query P1 P1 0 0x0001 says 0 yes false ∷ [])
    ∷ steps "loaded anew, FE is the other domain" (write version1 256 (domain full D1 ∷ domain full D2 ∷ loaded D1 allows_own ∷ [])) (remove P1 answers 0 ∷ load D2 allows_own answers 0 ∷ query D1 P1 0 0x0001 says 0 yes false ∷ query D2 P1 0 0x0001 says 0 yes true ∷ [])
    ∷ steps "a query of FE among indexes" (write version1 256 (domain full D1 ∷ loaded D1 allows_four ∷ [])) (query D1 P1 0 0x0007 says 0 yes true ∷ query D2 P1 0 0x0007 says 0 yes true ∷ query P2 P1 0 0x0007 says 0 yes false ∷ [])
    ∷ []

-- P1: static 1 allowing FE and D2. P2 imports P1: static 1, allowing D1 and FE, calls P1's by 8D.
abbrev pub called_own : Bytes
called_own = hex "42504B 0001 0024  05A000000101  01 05A0000000D2  00  0000  01  00 00 01  E0 0001 02FE00 0001 7A"

abbrev pub calling_own : Bytes
calling_own = hex "42504B 0001 0031  05A000000102  01 05A0000000D1  01 05A000000101  0001 01000001  01  00 00 01  E0 0001 0200FE 0004 8D00007A"

-- the calls that install them in two domains, and the ledger after these (proofs/WitnessOwn)
abbrev pub installing_own : List Operation
installing_own = create full D1 ∷ create full D2 ∷ load D1 called_own ∷ load D2 calling_own ∷ []

abbrev pub own_packages : List Entry
own_packages = domain full D1 ∷ domain full D2 ∷ loaded D1 called_own ∷ loaded D2 calling_own ∷ []

-- the rows of this file
abbrev pub own : List Row
own = reading ++ inside ++ across ++ longer ++ queries
