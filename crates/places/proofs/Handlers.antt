-- Handlers of a file have their fields at places: none in the first edition and of a method without code, else a count and six bytes each.
-- Assumes nothing.
use Prim.Native.Nat.{ℕ, zero, suc, ◌+◌, ◌*◌, ◌≤◌}
use native.Mathlib.Omega.{arith}
use mathlib.Core.Path.{◌≡◌, sym}
use mathlib.Core.Bool.{Bool, true, false}
use mathlib.Core.List.{List, []}
use Rattle.rules.specs.Bytes.{Bytes, ◌>>=◌, ret, u1, u2, many}
use Rattle.rules.specs.Code.{Handler}
use Rattle.rules.specs.Package.{Edition, edition1, edition2, most_handlers, handler, handlers_if}
use Rattle.places.specs.Reads.{Reads}
use Rattle.places.specs.Parts.{handler_at, handlers_at, HandlersPart}
use Rattle.places.proofs.Inverse.{reads_ret, reads_bind, One, reads_u1, Two, reads_u2, reads_many, reads_done, reads_counted}
use Rattle.places.proofs.Steady.{steady_u1, steady_u2, steady_handler}

pub handlers_none : (e : Edition) (s : Bytes) (i : ℕ) (hs : List Handler) (j : ℕ) → Reads (handlers_if e false) s i hs j → ([] ≡ hs) × (i ≡ j)
unfolding handlers_if
handlers_none e s i hs j p = reads_ret [] s i hs j p

-- the first edition has none
pub handlers_first : (b : Bool) (s : Bytes) (i : ℕ) (hs : List Handler) (j : ℕ) → Reads (handlers_if edition1 b) s i hs j → ([] ≡ hs) × (i ≡ j)
unfolding handlers_if
handlers_first true s i hs j p = reads_ret [] s i hs j p
handlers_first false s i hs j p = reads_ret [] s i hs j p

-- one handler: its three fields, in six bytes
handler_part : (s : Bytes) (i : ℕ) (h : Handler) (j : ℕ) → Reads handler s i h j → (handler_at s i ≡ h) × (i + 6 ≡ j)
unfolding handler
handler_part s i h j p =
    let x = reads_bind u2 (λ a. u2 >>= λ e. u2 >>= λ t. ret (record { start = a; end = e; target = t })) steady_u2 s i h j p in
    let y = reads_bind u2 (λ e. u2 >>= λ t. ret (record { start = x.0; end = e; target = t })) steady_u2 s x.1 h j x.3 in
    let z = reads_bind u2 (λ t. ret (record { start = x.0; end = y.0; target = t })) steady_u2 s y.1 h j y.3 in
    let w = reads_ret (record { start = x.0; end = y.0; target = z.0 }) s z.1 h j z.3 in
    go x.0 x.1 (reads_u2 s i x.0 x.1 x.2) y.0 y.1 (reads_u2 s x.1 y.0 y.1 y.2) z.0 z.1
    (reads_u2 s y.1 z.0 z.1 z.2) w.0 w.1
  where
    go : (a x : ℕ) → Two s i a x → (e y : ℕ) → Two s x e y → (t z : ℕ) → Two s y t z →
        ◌≡◌ {A = Handler} (record { start = a; end = e; target = t }) h → z ≡ j → (handler_at s i ≡ h) × (i + 6 ≡ j)
    go a x u e y v t z w q r =
        let first : i + 2 ≡ x = u.next in
        let second : i + 4 ≡ y = omega (arith, u.next, v.next) in
        (rw (first, second, u.value, v.value, w.value) q, omega (arith, u.next, v.next, w.next, r))

-- so many of them
handlers_many : (n : ℕ) (s : Bytes) (i : ℕ) (hs : List Handler) (j : ℕ) → Reads (many n handler) s i hs j → (handlers_at n s i ≡ hs) × (i + 6 * n ≡ j)
unfolding handlers_at
handlers_many zero s i hs j p = let z = reads_done handler 0 s i hs j (omega arith) p in (sym z.0, omega (arith, z.1))
handlers_many (suc n) s i hs j p =
    let z = reads_many handler steady_handler n s i hs j p in
    let one = handler_part s i z.one z.place z.reads in
    let rest = handlers_many n s z.place z.others j z.rest in
    let next : i + 6 ≡ z.place = one.1 in
    (rw (one.0, next, rest.0) z.are, omega (arith, rest.1, one.1))

-- of a code in the second edition
pub handlers_part : (s : Bytes) (i : ℕ) (hs : List Handler) (j : ℕ) → Reads (handlers_if edition2 true) s i hs j → HandlersPart s i hs j
unfolding handlers_if
handlers_part s i hs j p =
    let c = reads_counted most_handlers u1 handler steady_u1 s i hs j p in
    go c.number c.place (reads_u1 s i c.number c.place c.count) c.small (handlers_many c.number s c.place hs j c.list)
  where
    go : (n m : ℕ) → One s i n m → n ≤ most_handlers → (handlers_at n s m ≡ hs) × (m + 6 * n ≡ j) → HandlersPart s i hs j
    go n m u small list =
        let b = u.byte in
        let next : i + 1 ≡ m = u.next in
        record { inside = u.inside; few = rw b small; are = rw (b, next) list.0; next = rw b (omega (arith, next, list.1)); to = p.to }
