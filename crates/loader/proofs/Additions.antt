-- Fresh, a creation and a load: what they write fits, and what they leave. Assumes nothing.
use Prim.Native.Nat.{ℕ, ◌*◌, ◌≤◌, ◌<◌}
use native.Mathlib.Omega.{arith}
use mathlib.Core.Path.{◌≡◌, sym, ◌∙◌}
use mathlib.Core.Bool.{Bool, true, false}
use mathlib.Core.List.{[]}
use lib.Dec.{leb, leb→le}
use lib.ListN.{length}
use Rattle.rules.specs.Bytes.{Bytes, Aid, pick, aid_length}
use Rattle.rules.specs.Package.{Limits, read_file}
use Rattle.rules.specs.Store.{Opening, version1, version2, DomainKind, domain, loaded, write, store_limits, store_opening}
use Rattle.rules.specs.Questions.{q1_size, q3_lengths, q30_limits}
use Rattle.rules.specs.Operations.{create, load, first_no, load_questions, number, after, deepest_of, depth_figure, fresh_number, fresh_bytes}
use Rattle.rules.proofs.Tests.{and_l, and_r, is_true}
use Rattle.rules.proofs.Asked.{create_yes, load_yes, deepest_limit}
use Rattle.rules.proofs.Results.{figure_refused}
use Rattle.rules.proofs.Limits.{limits_range_lem}
use Rattle.store.specs.Sound.{SoundAt, Asked}
use Rattle.writing.specs.Changes.{Room, Appended}
use Rattle.store.proofs.Asked.{size_is}
use Rattle.judge.specs.Says.{LoadSays}
use Rattle.std.specs.Prelude.{Ok}
use Rattle.loader.specs.Promises.{LoadPromise}
use Rattle.store.proofs.Sound.{sound_store, laid, small, asked_number, asked_done, refused_after}

-- a buffer that question 1 takes has room for the opening bytes
pub fresh_room : (s : Bytes) → q1_size s ≡ true → 11 ≤ length s
fresh_room s h = omega (arith, (size_is s h).0)

-- a refused buffer, by either fresh call
pub fresh_refused : (s : Bytes) (v : Opening) → q1_size s ≡ false → (1 ≡ fresh_number s v) × (s ≡ fresh_bytes s v)
unfolding fresh_number fresh_bytes
fresh_refused s version1 h = (rw h, rw h)
fresh_refused s (version2 l) h = (rw h, rw h)

-- the first fresh call
pub fresh_done : (s t : Bytes) → q1_size s ≡ true → t ≡ write version1 (length s) [] → (0 ≡ fresh_number s version1) × (t ≡ fresh_bytes s version1)
unfolding fresh_number fresh_bytes
fresh_done s t h e = (rw h, e ∙ rw h)

-- the second one, by the answer to question 30
pub fresh_limits_lem : (s t : Bytes) (l : Limits) (b : Bool) → q1_size s ≡ true → b ≡ q30_limits l → t ≡ pick b (write (version2 l) (length s) []) s →
    (pick b 0 30 ≡ fresh_number s (version2 l)) × (t ≡ fresh_bytes s (version2 l))
unfolding fresh_number fresh_bytes
fresh_limits_lem s t l true h q e = (rw (h, ← q), e ∙ rw (h, ← q))
fresh_limits_lem s t l false h q e = (rw (h, ← q), e ∙ rw (h, ← q))

-- a load's refusal
pub refused_promise : (s : Bytes) (d : Aid) (f : Bytes) (n : ℕ) → (n ≡ 0 → ⊥) → n ≡ number s (load d f) → LoadPromise s d f n
refused_promise s d f n z e = omega (arith, e, figure_refused s d f (λ y. z (e ∙ y)))

pub load_refused : (s : Bytes) (d : Aid) (f : Bytes) (n : ℕ) → (n ≡ 0 → ⊥) × (n ≡ number s (load d f)) → LoadPromise s d f n × (s ≡ after s (load d f))
load_refused s d f n p = (refused_promise s d f n p.0 p.1, refused_after s (load d f) n p.0 p.1)

module _ (s : Bytes) (u : ℕ) (h : SoundAt s u) where
  -- a creation with all questions yes
  pub create_room : (k : DomainKind) (a : Aid) → Asked s u (create k a) 0 → Room s u (domain k a)
  create_room k a q =
      let x = sound_store s u h in
      record { laid = laid s u h; small = small s u h; fits = is_true _ (create_yes (store_opening s) (length s) x.es k a (sym (q x.es x.over))).q21 }

  module _ (d : Aid) (f : Bytes) (depth : ℕ) (q : LoadSays s u d f (Ok depth)) where
    -- all questions are answered yes
    load_asked : Asked s u (load d f) 0
    load_asked es o = (q es o).number

    yes : first_no (load_questions (store_opening s) (length s) (sound_store s u h).es d f) ≡ 0
    yes = let x = sound_store s u h in sym (q x.es x.over).number

    -- what is written fits
    pub load_room : Room s u (loaded d f) × (length d < 256)
    unfolding q3_lengths
    load_room =
        let x = sound_store s u h in
        let y = load_yes (store_opening s) (length s) x.es d f yes in
        let l = leb→le (length d) 16 (and_r (leb 5 (length d)) (leb (length d) 16) (and_l (aid_length (length d)) true y.1.q3)) in
        (record { laid = laid s u h; small = small s u h; fits = is_true _ y.1.q21 }, omega arith)

    -- the depth figure
    figure_is : depth ≡ deepest_of (store_limits s) (sound_store s u h).es d (read_file (store_limits s) f)
    figure_is = let x = sound_store s u h in (q x.es x.over).figure yes

    figure_limit : depth ≤ (store_limits s).depth
    figure_limit =
        let x = sound_store s u h in
        let y = load_yes (store_opening s) (length s) x.es d f yes in
        rw (figure_is, y.1.q11) (deepest_limit (store_opening s) (length s) x.es d f y.0 y.1)

    pub figure_within : depth ≤ 16
    figure_within = omega (arith, figure_limit, (limits_range_lem s).0)

    pub load_done : (t : Bytes) → Appended s t (loaded d f) → LoadPromise s d f (256 * depth) × (t ≡ after s (load d f))
    unfolding depth_figure
    load_done t w =
        let x = sound_store s u h in
        let e : number s (load d f) ≡ 0 = sym (asked_number s u h (load d f) 0 load_asked) in
        let l : depth_figure s d f ≡ depth = rw (e, x.reads) (sym figure_is) in
        (omega (arith, e, l), (asked_done s u h (load d f) t load_asked w).1)
