-- Rows that are kept between comparisons are true of the pair of files at hand. Assumes nothing.
use Prim.Native.Nat.{ℕ}
use native.Mathlib.Omega.{arith}
use mathlib.Core.Path.{◌≡◌, refl, ◌∙◌, ap, subst}
use mathlib.Core.List.{List}
use lib.ListN.{length, replicate, length-replicate, get_or-replicate}
use Rattle.rules.specs.Bytes.{Bytes, Aid, u1, aid, counted}
use Rattle.rules.specs.Package.{most_domains, Package, read_file}
use Rattle.rules.specs.Store.{store_limits}
use Rattle.places.specs.Reads.{Reads}
use Rattle.places.proofs.Inverse.{reads_same}
use Rattle.files.specs.Say.{DomainsAt}
use Rattle.files.proofs.Walks.{domains_read}
use Rattle.policies.specs.Rows.{row_length, unknown, Known}
use Rattle.inclusion.specs.Rows.{row_number, RowTrue, RowEmpty}
use Rattle.homes.specs.Homes.{file_of, aid_at, domain_place}
use Rattle.homes.specs.declared.Home.{Home}
use Rattle.running.specs.Say.{BothThere}
use Rattle.running.specs.Rows.{RowFor, RowTurned}
use Rattle.chains.specs.declared.MethodSpot.{MethodSpot}
use Rattle.running.proofs.Allows.{file_reads}

pub turn_same : (x : List ℕ) (g h : Home) → length x ≡ row_length → g ≡ h → RowTurned x x g h
turn_same x g h z e = record { size = z; turned = λ f s d k r. subst (λ (a : Home). RowFor f s d a k x) e r }

-- a row that knows nothing
none_known : (y : List ℕ) (w : ℕ → ℕ) → RowEmpty y → Known w y
none_known y w e k b n = absurd (n (e.clear k (omega (arith, e.size))))

pub turn_empty : (x y : List ℕ) (g h : Home) → RowEmpty y → RowTurned x y g h
turn_empty x y g h e = record { size = e.size; turned = λ f s d k r. record { size = e.size; known = λ l p q u v. none_known y _ e } }

pub row_start : (f s : Bytes) (d : ℕ) (g h : Home) → RowFor f s d g h (replicate row_length unknown)
row_start f s d g h =
    let e : RowEmpty (replicate row_length unknown) =
    record { size = length-replicate {A = ℕ} row_length unknown; clear = λ k b. get_or-replicate row_length k unknown 0 b } in
    record { size = e.size; known = λ l p q u v. none_known _ _ e }

-- the row of two files by the places of their domains
module _ (f s : Bytes) (d : ℕ) (x y : MethodSpot) (a b : Bytes) (za : a ≡ file_of f s x.home) (zb : b ≡ file_of f s y.home) (da db : Aid)
    (ya : da ≡ aid_at s (domain_place x.home d)) (yb : db ≡ aid_at s (domain_place y.home d)) (u v : ℕ) (du : DomainsAt a u) (dv : DomainsAt b v) where
  pub row_true : BothThere f s d x y → (row : List ℕ) → RowFor f s d x.home y.home row → RowTrue a u da b v db row
  row_true t row r = record { size = r.size; known = λ ds j rd gs k rg. rw (ya, yb, ← listed ds j rd, ← others gs k rg) both }
    where
      p : Package
      p = t.5.class.home.pack

      q : Package
      q = t.7.class.home.pack

      listed : (ds : List Aid) (j : ℕ) → Reads (counted most_domains u1 aid) a u ds j → p.domains ≡ ds
      listed ds j rd =
          let w = domains_read du (store_limits s) p (file_reads f s x.home x.place a za t.0 t.1 t.2 t.5 t.6 t.3) in
          (reads_same (counted most_domains u1 aid) a u p.domains ds w.0 j w.1 rd).0

      others : (gs : List Aid) (k : ℕ) → Reads (counted most_domains u1 aid) b v gs k → q.domains ≡ gs
      others gs k rg =
          let w = domains_read dv (store_limits s) q (file_reads f s y.home y.place b zb t.0 t.1 t.2 t.7 t.8 t.3) in
          (reads_same (counted most_domains u1 aid) b v q.domains gs w.0 k w.1 rg).0

      both : Known (row_number p.domains (aid_at s (domain_place x.home d)) q.domains (aid_at s (domain_place y.home d))) row
      both =
          r.known (store_limits s) p q (file_reads f s x.home x.place (file_of f s x.home) refl t.0 t.1 t.2 t.5 t.6 t.3)
          (file_reads f s y.home y.place (file_of f s y.home) refl t.0 t.1 t.2 t.7 t.8 t.3)

  pub row_for : (row : List ℕ) → RowTrue a u da b v db row → RowFor f s d x.home y.home row
  row_for row r = record {
    size = r.size;
    known = λ l p q rp rq.
        let i = domains_read du l p (ap (read_file l) za ∙ rp) in
        let j = domains_read dv l q (ap (read_file l) zb ∙ rq) in
        rw (← ya, ← yb) (r.known p.domains i.0 i.1 q.domains j.0 j.1);
  }
