-- A query of a sound store, question by question, and its yes or no. Assumes nothing.
use Prim.Native.Nat.{ℕ, ◌+◌, ◌≤◌}
use native.Mathlib.Omega.{arith}
use mathlib.Core.Path.{◌≡◌, refl, sym, ◌∙◌, ap, subst}
use mathlib.Core.Bool.{Bool, true, false}
use mathlib.Core.List.{List}
use mathlib.Core.Option.{Option, none, some}
use lib.ListN.{length}
use Rattle.rules.specs.Bytes.{Bytes, Aid, pick, at, is_some, some_and, ◌and_then◌, aid_length}
use Rattle.rules.specs.Package.{Class, Method}
use Rattle.rules.specs.Store.{Entry, store_limits}
use Rattle.rules.specs.Classes.{Installed, installed, record_of, declared, MethodAt, meant, admits, allows}
use Rattle.rules.specs.Questions.{q3_lengths, q7_installed, method_queried, q9_declared}
use Rattle.rules.specs.Operations.{first_no, query_questions, query_number, query_yes}
use Rattle.files.specs.Say.{Readable}
use Rattle.store.specs.Entries.{part, PackageAt}
use Rattle.store.specs.Answers.{FileAt, FileSays}
use Rattle.std.specs.Prelude.{Some, None, Result, Ok, Err}
use Rattle.std.specs.Prelude.{Option as Optional}
use Rattle.store.specs.declared.FileBounds.{FileBounds}
use Rattle.store.specs.Sound.{SoundAt}
use Rattle.fields.specs.Told.{told}
use Rattle.refusals.specs.declared.refusal.Refusal.{Refusal}
use Rattle.refusals.specs.declared.refusal.Refusal.TheVariants as refused
use Rattle.refusals.specs.Refusals.{number_of, number_said}
use Rattle.refusals.proofs.Numbers.{some_number}
use Rattle.services.specs.Answers.{FileAllows, yes_said}
use Rattle.store.proofs.Parts.{part_length}
use Rattle.store.proofs.Sound.{kept, sound_store}
use Rattle.index.specs.Index.{file_from}
use Rattle.index.proofs.Here.{package_by}
use Rattle.services.proofs.Cuts.{over_reads}

-- the answer of a query: its number, and yes where that method allows the domain
abbrev ResultIs : Bytes → Aid → Aid → ℕ → ℕ → Result Bool Refusal → Type 0
ResultIs s d a c n r = (number_said r ≡ query_number s d a c n) × (yes_said r ≡ query_yes s d a c n)

-- a method where it stands; the method of a class and a name in a package, and what it says of a domain
abbrev standing : Installed → ℕ → Method → MethodAt
standing i c m = record { class = record { home = i; number = c }; method = m }

abbrev method_in : Installed → ℕ → ℕ → Option MethodAt
method_in i c n = record_of (record { home = i; number = c }) and_then λ k. declared k n and_then λ m. some (standing i c m)

abbrev says_in : Installed → ℕ → ℕ → Aid → Option Bool
says_in i c n d = at i.pack.classes c and_then λ k. declared k n and_then λ m. some (admits (meant i.domain m.policy) d)

-- they are there together, and say the same
abbrev Agree : Aid → Option MethodAt → Option Bool → Type 0
Agree d o v = (is_some o ≡ is_some v) × (some_and o (λ m. allows m d) ≡ some_and v (λ b. b))

method_says : (i : Installed) (c n : ℕ) (d : Aid) → Agree d (method_in i c n) (says_in i c n d)
method_says i c n d = of_class_lem (at i.pack.classes c)
  where
    of_method : (o : Option Method) → Agree d (o and_then λ m. some (standing i c m)) (o and_then λ m. some (admits (meant i.domain m.policy) d))
    of_method none = (refl, refl)
    of_method (some m) = (refl, refl)

    of_class_lem : (o : Option Class) → Agree d (o and_then λ k. declared k n and_then λ m. some (standing i c m))
        (o and_then λ k. declared k n and_then λ m. some (admits (meant i.domain m.policy) d))
    of_class_lem none = (refl, refl)
    of_class_lem (some k) = of_method (declared k n)

-- the package of a query, found in a sound store; both AIDs have 5 to 16 bytes
pub record Found (s : Bytes) (d a : Aid) (u i j k : ℕ) : Type 0 where
  pub sound : SoundAt s u
  pub domain_length : aid_length (length d) ≡ true
  pub aid_length_lem : aid_length (length a) ≡ true
  pub spot : Optional FileBounds
  pub told : FileAt s u a spot
  pub is : spot ≡ Some (record { at = i; from = j; to = k })

module _ (s : Bytes) (d a : Aid) (c n : ℕ) where
  -- a refusal says no
  query_refused : (f : Refusal) → number_of f ≡ query_number s d a c n → ResultIs s d a c n (Err f)
  unfolding query_yes
  query_refused f e = (e, sym (kept (query_number s d a c n) _ false (λ y. omega (arith, some_number f, e ∙ y))))

  module _ (u : ℕ) (h : SoundAt s u) where
    -- the number by the questions from 3 on
    query_number_lem : query_number s d a c n ≡ first_no (query_questions (store_limits s) (sound_store s u h).es d a c n)
    unfolding query_number
    query_number_lem = let x = sound_store s u h in rw (x.size, x.is, x.reads)

    pub query_3_domain : aid_length (length d) ≡ false → ResultIs s d a c n (Err refused.AidLength)
    unfolding query_questions q3_lengths
    query_3_domain q = query_refused refused.AidLength (sym (query_number_lem ∙ rw q))

    pub query_3_package : aid_length (length d) ≡ true → aid_length (length a) ≡ false → ResultIs s d a c n (Err refused.AidLength)
    unfolding query_questions q3_lengths
    query_3_package p q = query_refused refused.AidLength (sym (query_number_lem ∙ rw (p, q)))

    -- what the search for the package says
    found : (r x : Optional FileBounds) → FileAt s u a r → r ≡ x → FileSays s (sound_store s u h).es a x
    found r x f z = let y = sound_store s u h in subst (FileSays s y.es a) z (f y.es y.over.stand (over_reads s u y.es y.over))

    pub query_7 : aid_length (length d) ≡ true → aid_length (length a) ≡ true → (r : Optional FileBounds) → FileAt s u a r → r ≡ None → ResultIs s d a c n (Err refused.PackageUnknown)
    unfolding query_questions q3_lengths q7_installed
    query_7 p q r f z = query_refused refused.PackageUnknown (sym (query_number_lem ∙ rw (p, q, (found r None f z).1)))

  module _ (u i j k : ℕ) (x : Found s d a u i j k) where
    -- the entries, and the package among them
    abbrev es : List Entry
    es = (sound_store s u x.sound).es

    pub at_place : PackageAt s es a i j k
    at_place = found u x.sound x.spot (Some (record { at = i; from = j; to = k })) x.told x.is

    abbrev home : Installed
    home = at_place.home

    -- the package's file
    pub query_file : (j ≤ k) × (k ≤ length s) × Readable (part s j k)
    query_file = let y = at_place in (y.from, y.to, (store_limits s, y.home.pack, y.reads))

    -- the domain that it lies in stands before the file
    pub query_domain : (i + 4 ≤ j) × (part s (i + 4) j ≡ home.domain)
    query_domain =
        let y = at_place in
        let b = package_by s i y.home.domain (part s j k) k y.stands in
        let e : file_from s i ≡ j =
        omega (arith, ap length b.file, part_length s j k y.to, part_length s (file_from s i) k y.to, b.inside, y.from) in
        (omega (arith, e), ap (part s (i + 4)) (sym e) ∙ sym b.domain)

    -- its answer
    says : (v : Optional Bool) → FileAllows (part s j k) (part s (i + 4) j) c n d v → told v ≡ says_in home c n d
    says v w =
        let y = at_place in
        w (store_limits s) y.home.pack y.reads ∙ ap (λ (e : Aid). says_in (record { domain = e; pack = y.home.pack }) c n d) query_domain.1

    queried : method_queried (installed (store_limits s) es) a c n ≡ method_in home c n
    unfolding method_queried
    queried = rw at_place.is

    declared_is : (v : Optional Bool) → FileAllows (part s j k) (part s (i + 4) j) c n d v → q9_declared (installed (store_limits s) es) a c n ≡ is_some (told v)
    unfolding q9_declared
    declared_is v w = ap is_some queried ∙ (method_says home c n d).0 ∙ sym (ap is_some (says v w))

    asked : (v : Optional Bool) → FileAllows (part s j k) (part s (i + 4) j) c n d v → query_number s d a c n ≡ pick (is_some (told v)) 0 9
    unfolding query_questions q3_lengths q7_installed
    asked v w = query_number_lem u x.sound ∙ rw (x.domain_length, x.aid_length_lem, at_place.is, declared_is v w)

    pub query_9 : FileAllows (part s j k) (part s (i + 4) j) c n d None → ResultIs s d a c n (Err refused.MethodUnknown)
    query_9 w = query_refused refused.MethodUnknown (sym (asked None w))

    pub query_done : (b : Bool) → FileAllows (part s j k) (part s (i + 4) j) c n d (Some b) → ResultIs s d a c n (Ok b)
    unfolding query_yes
    query_done b w =
        let y = sound_store s u x.sound in
        let e : query_number s d a c n ≡ 0 = asked (Some b) w in
        let m : some_and (method_queried (installed (store_limits s) y.es) a c n) (λ m. allows m d) ≡ b =
        ap (λ (o : Option MethodAt). some_and o (λ m. allows m d)) queried ∙ (method_says home c n d).1 ∙ sym
        (ap (λ (o : Option Bool). some_and o (λ m. m)) (says (Some b) w)) in
        let l : query_yes s d a c n ≡ b = rw (e, y.reads) m in
        (sym e, sym l)
