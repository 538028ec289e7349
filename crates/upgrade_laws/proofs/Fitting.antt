-- The numbers of a lemma's step fit 128 bits.
use Rattle.std.proofs.Common.{◌≡◌, ◌<◌, ◌^◌, ℕ, ℤ, pos, negsuc, Bool, true, false, List, [], ◌∷◌, ◌++◌, map, take, All, Option, Some, None, option_map, refl, sym, subst, arith}
use Rattle.std.specs.Prelude.{FitsSigned}
use Rattle.std.specs.Int.{w128}
use Rattle.std.proofs.lemmas.List.Elements.{All-nil, All-cons, All-head, All-tail, All-append, All-take, All-map, All-weaker}
use Rattle.terms.specs.Formula.{Formula}
use Rattle.term_meaning.specs.Meaning.{Language}
use Rattle.axiom_steps.specs.Steps.{naturals}
use Rattle.axiom_parameters.specs.Parameters.{with_terms}
use Rattle.block_layout.specs.Layout.{but_last}
use Rattle.certificate_upgrade.specs.Conclusions.{args_of, arg_marks}
use Rattle.certificate_upgrade.specs.Lemmas.{numbers_with}
use Rattle.upgrade_laws.proofs.Lists.{some_is}
use Rattle.upgrade_laws.proofs.Instances.{IsInstance, args_is}
use Rattle.upgrade_laws.proofs.Plain.{AreSmall}

abbrev pub Fits : ℤ → Type 0
Fits z = FitsSigned w128 z

abbrev pub AreFitting : List ℤ → Type 0
AreFitting zs = All Fits zs

pub small_fits : (n : ℕ) → n < 2 ^ 32 → Fits (pos n)
small_fits n h = record { sfits = omega (arith, h) }

but_last_fits : (zs before : List ℤ) → but_last zs ≡ Some before → AreFitting zs → AreFitting before
but_last_fits [] before e h = absurd (cc)
but_last_fits (z ∷ []) before e h = subst AreFitting (some_is [] before e) (All-nil Fits)
but_last_fits (z ∷ y ∷ rest) before e h =
    let (more, made, is) = mapped (but_last (y ∷ rest)) e in
    subst AreFitting is (All-cons Fits z more (All-head Fits z (y ∷ rest) h) (but_last_fits (y ∷ rest) more made (All-tail Fits z (y ∷ rest) h)))
  where
    mapped : (o : Option (List ℤ)) → option_map (λ more. z ∷ more) o ≡ Some before → (more : List ℤ) × (o ≡ Some more) × ((z ∷ more) ≡ before)
    mapped None q = absurd (cc)
    mapped (Some more) q = (more, refl, some_is (z ∷ more) before q)

naturals_fit : (zs : List ℤ) (ns : List ℕ) → naturals zs ≡ Some ns → AreFitting zs → All (λ n. Fits (pos n)) ns
naturals_fit [] ns e h = subst (λ (xs : List ℕ). All (λ n. Fits (pos n)) xs) (some_is [] ns e) (All-nil (λ n. Fits (pos n)))
naturals_fit (negsuc z ∷ zs) ns e h = absurd (cc)
naturals_fit (pos z ∷ zs) ns e h =
    let (more, made, is) = mapped (naturals zs) e in
    subst (λ (xs : List ℕ). All (λ n. Fits (pos n)) xs) is
    (All-cons (λ n. Fits (pos n)) z more (All-head Fits (pos z) zs h) (naturals_fit zs more made (All-tail Fits (pos z) zs h)))
  where
    mapped : (o : Option (List ℕ)) → option_map (λ more. z ∷ more) o ≡ Some ns → (more : List ℕ) × (o ≡ Some more) × ((z ∷ more) ≡ ns)
    mapped None q = absurd (cc)
    mapped (Some more) q = (more, refl, some_is (z ∷ more) ns q)

-- numbers with others among them
with_terms_fit : (P : ℕ → Type 0) (bs : List Bool) (ns ids : List ℕ) → All P ns → All P ids → All P (with_terms bs ns ids)
with_terms_fit P [] ns ids h g = h
with_terms_fit P (b ∷ bs) [] ids h g = All-nil P
with_terms_fit P (false ∷ bs) (n ∷ ns) ids h g = All-cons P n (with_terms bs ns ids) (All-head P n ns h) (with_terms_fit P bs ns ids (All-tail P n ns h) g)
with_terms_fit P (true ∷ bs) (n ∷ ns) [] h g = All-cons P n (with_terms bs ns []) (All-head P n ns h) (with_terms_fit P bs ns [] (All-tail P n ns h) g)
with_terms_fit P (true ∷ bs) (n ∷ ns) (id ∷ ids) h g = All-cons P id (with_terms bs ns ids) (All-head P id ids g) (with_terms_fit P bs ns ids (All-tail P n ns h) (All-tail P id ids g))

-- the args of an instance are among its numbers
args_fit : {l : Language} {all : List Formula} {numbers : List ℤ} {f : Formula} (i : IsInstance l all numbers f) → AreFitting numbers → All (λ n. Fits (pos n)) (args_of numbers)
args_fit {l} {all} {numbers} {f} i h =
    let whole : AreFitting (i.axiom_number ∷ i.part ∷ i.rest) = subst AreFitting i.numbers_are h in
    let rest : AreFitting i.rest = All-tail Fits i.part i.rest (All-tail Fits i.axiom_number (i.part ∷ i.rest) whole) in
    subst (λ (ns : List ℕ). All (λ n. Fits (pos n)) ns) (sym (args_is i)) (naturals_fit i.before i.args i.args_are (but_last_fits i.rest i.before i.before_are rest))

-- an instance's numbers with small ones in place of its terms
pub numbers_fit : {l : Language} {all : List Formula} {numbers : List ℤ} {f : Formula} (i : IsInstance l all numbers f) (ids : List ℕ) (t : ℕ) → AreFitting numbers → AreSmall ids → t < 2 ^ 32 → AreFitting (numbers_with l numbers ids t)
numbers_fit {l} {all} {numbers} {f} i ids t h small last =
    let args : All (λ n. Fits (pos n)) (with_terms (arg_marks l numbers) (args_of numbers) ids) =
    with_terms_fit (λ n. Fits (pos n)) (arg_marks l numbers) (args_of numbers) ids (args_fit i h) (All-weaker (λ n. n < 2 ^ 32) (λ n. Fits (pos n)) small_fits ids small) in
    All-append Fits (take 2 numbers ++ map pos (with_terms (arg_marks l numbers) (args_of numbers) ids)) (pos t ∷ [])
    (All-append Fits (take 2 numbers) (map pos (with_terms (arg_marks l numbers) (args_of numbers) ids)) (All-take Fits 2 numbers h) (All-map Fits pos (with_terms (arg_marks l numbers) (args_of numbers) ids) args))
    (All-cons Fits (pos t) [] (small_fits t last) (All-nil Fits))
