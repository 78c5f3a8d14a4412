-- The store: its opening, its entries and its layout (document 01, "The store"; document 02, wishes 9 and 12). Assumes nothing.
-- Opening           == what a store opens with: version 1, or version 2 with its limits; opening_limits v == the limits of such a store
-- DomainKind        == kind 1, and kind 3, a domain whose packages keep to the subset without int
-- Entry             == a domain's kind and AID (kinds 1 and 3); a loading domain's AID and a package file (kind 2)
-- entry_bytes e      == kind u1, body length u2, body
-- opening_length v   == the opening bytes, 7 or 11; used v es == bytes from the start, the opening ones included
-- write v n es      == the buffer of n bytes that the layout gives
use Rattle.std.specs.Prelude.{ℕ, ◌+◌, ◌-◌, Bool, List, [], ◌∷◌, ◌++◌, ◌≡◌, length, replicate}
use Rattle.rules.specs.Bytes.{Bytes, Aid, flat, high, low}
use Rattle.rules.specs.Limits.{Limits, standard, limits_range}

-- version 1, or version 2 with its limits
pub data Opening : Type 0 where
  version1 : Opening
  version2 : Limits → Opening

-- version 1 means document 01's limits
abbrev pub opening_limits : Opening → Limits
opening_limits version1 = standard
opening_limits (version2 l) = l

-- its limits lie in their ranges
abbrev pub opening_range : Opening → Bool
opening_range v = limits_range (opening_limits v)

-- a domain of kind 1, or of kind 3, whose packages keep to the subset without int
pub data DomainKind : Type 0 where
  full without_int : DomainKind

pub data Entry : Type 0 where
  domain : DomainKind → Aid → Entry
  loaded : Aid → Bytes → Entry

abbrev pub domain_byte : DomainKind → ℕ
domain_byte full = 1
domain_byte without_int = 3

abbrev pub kind_byte : Entry → ℕ
kind_byte (domain k a) = domain_byte k
kind_byte (loaded d f) = 2

abbrev pub body : Entry → Bytes
body (domain k a) = a
body (loaded d f) = length d ∷ d ++ f

abbrev pub entry_bytes : Entry → Bytes
entry_bytes e = kind_byte e ∷ high (length (body e)) ∷ low (length (body e)) ∷ body e

abbrev pub entries_bytes : List Entry → Bytes
entries_bytes es = flat entry_bytes es

abbrev pub store_version : Opening → ℕ
store_version version1 = 1
store_version (version2 l) = 2

-- "BCS", version
abbrev pub store_mark : ℕ → Bytes
store_mark version = 0x42 ∷ 0x43 ∷ 0x53 ∷ 0x00 ∷ version ∷ []

-- version 2 follows used with depth u1, parents u1, code length u2
abbrev pub limits_bytes : Opening → Bytes
limits_bytes version1 = []
limits_bytes (version2 l) = l.depth ∷ l.parents ∷ high l.code ∷ low l.code ∷ []

-- the opening bytes: mark, version, the used field, limits
abbrev pub opening_length : Opening → ℕ
opening_length version1 = 7
opening_length (version2 l) = 11

abbrev pub used : Opening → List Entry → ℕ
used v es = opening_length v + length (entries_bytes es)

-- mark, version, used, limits, the entries, zeros
unfoldable pub write : Opening → ℕ → List Entry → Bytes
write v n es = store_mark (store_version v) ++ (high (used v es) ∷ low (used v es) ∷ limits_bytes v ++ (entries_bytes es ++ replicate (n - used v es) 0))

-- s is laid out as a store from this opening and these entries, and from nothing else
abbrev pub WrittenFrom : Bytes → Opening → List Entry → Type 0
WrittenFrom s v es = s ≡ write v (length s) es
