-- Class places and homes of imports of the packages at hand, in slots of 80 numbers: 32 class places, the home of the package, the homes
-- of its imports; 0 where it is not known yet. Assumes nothing.
--
-- home_in t i           == the home that stands in three numbers of the table t from number i on; with_home t i h == the table with it
-- slot_home t k         == the home of the package that slot k stands for; import_home t k p == the home of its import p, counted from 1
-- SmallHome h          == a home's places fit two bytes
-- SlotTrue f s t k     == what slot k tells is true of the package at its home; SlotsTrue f s t == so are all slots
-- Emptied t u k        == the table u is t with slot k emptied
-- SlotFor t u h k      == where all slots of t are true, so are those of u, and slot k stands for the package at home h
use Rattle.std.specs.Prelude.{ℕ, suc, ◌+◌, ◌*◌, ◌<◌, ◌≤◌, ◌≡◌, List, length, get_or, set}
use Rattle.std.specs.Prelude.{Some}
use Rattle.rules.specs.Bytes.{Bytes}
use Rattle.homes.specs.Homes.{file_of, NumberedIs}
use Rattle.homes.specs.declared.Home.{Home}
use Rattle.named.specs.Named.{RowTrue}

abbrev pub slot_count : ℕ
slot_count = 8

abbrev pub slot_length : ℕ
slot_length = 80

abbrev pub slots_length : ℕ
slots_length = 640

abbrev pub home_in : List ℕ → ℕ → Home
home_in t i = record { from = get_or t i 0; to = get_or t (i + 1) 0; before = get_or t (i + 2) 0 }

abbrev pub with_home : List ℕ → ℕ → Home → List ℕ
with_home t i h = set (set (set t i h.from) (i + 1) h.to) (i + 2) h.before

abbrev pub slot_home : List ℕ → ℕ → Home
slot_home t k = home_in t (slot_length * k + 32)

abbrev pub import_home : List ℕ → ℕ → ℕ → Home
import_home t k p = home_in t (slot_length * k + 32 + 3 * p)

pub record SmallHome (h : Home) : Type 0 where
  pub from : h.from ≤ 65535
  pub to : h.to ≤ 65535
  pub before : h.before ≤ 65535

-- what a slot tells
pub record SlotTrue (f s : Bytes) (t : List ℕ) (k : ℕ) : Type 0 where
  pub places : RowTrue (file_of f s (slot_home t k)) t (slot_length * k)
  pub imports : (p : ℕ) → suc p ≤ 15 → ((import_home t k (suc p)).to ≡ 0 → ⊥) → NumberedIs f s (slot_home t k) (suc p) (Some (import_home t k (suc p)))

pub record SlotsTrue (f s : Bytes) (t : List ℕ) : Type 0 where
  pub size : slots_length ≤ length t
  pub slot : (k : ℕ) → k < slot_count → SlotTrue f s t k

-- two tables have the same in a slot
abbrev pub SlotSame : List ℕ → List ℕ → ℕ → Type 0
SlotSame t u k = (i : ℕ) → slot_length * k ≤ i → i < slot_length * k + slot_length → get_or u i 0 ≡ get_or t i 0

pub record Emptied (t u : List ℕ) (k : ℕ) : Type 0 where
  pub zeros : (i : ℕ) → slot_length * k ≤ i → i < slot_length * k + slot_length → get_or u i 0 ≡ 0
  pub others : (j : ℕ) → (j ≡ k → ⊥) → SlotSame t u j

pub record SlotFor (t u : List ℕ) (h : Home) (k : ℕ) : Type 0 where
  pub home : slot_home u k ≡ h
  pub true : (f s : Bytes) → SlotsTrue f s t → SlotsTrue f s u
