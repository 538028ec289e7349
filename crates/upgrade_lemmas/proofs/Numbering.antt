-- The numbering that is worked out is the one that graphs have.
use Rattle.std.proofs.Common.{◌≡◌, ℕ, zero, suc, ◌+◌, ◌<◌, ◌≤◌, ◌==◌, ℤ, pos, negsuc, Bool, true, false, ◌&&◌, if◌then◌else◌, List, [], ◌∷◌, ◌++◌, Contains, inl, inr, Option, Some, None, slice_get, get_or, drop, length, append_assoc, append-nil, refl, ap, sym, ◌∙◌, arith, eq-eqb}
use Rattle.std.proofs.lemmas.Bool.{eqb-true}
use Rattle.std.proofs.lemmas.Option.{slice_get-get_or}
use Rattle.object_types.specs.Values.{same_int}
use Rattle.method.proofs.Global.{both_and}
use Rattle.terms.specs.declared.term.Term.{Term}
use Rattle.terms.specs.declared.term.Kind.{Kind}
use Rattle.terms.specs.Formula.{Formula, Formulas, Node, Stop, With, term, Interns, Numbers, AllNumbers, Numbered}
use Rattle.term_graph.specs.Graph.{IsGraph}
use Rattle.term_graph.proofs.Trees.{numbered, numbered_same}
use Rattle.term_meaning.specs.Filling.{trees}
use Rattle.conditions.specs.Formulas.{kind_number, same_kind}
use Rattle.conditions.specs.Numbering.{Numbered as Working, same_numbers, same_term, number_from, numbered_at, interned, with_first, number, number_all}
use Rattle.conditions.proofs.Same.{both_true, same_is}
use Rattle.condition_formulas.specs.Standing.{StandsAs, StandAll}
use Rattle.condition_formulas.proofs.Rows.{as_long, at}
use Rattle.upgrade_lemmas.specs.Making.{HasNumber, HaveNumbers}
use Rattle.upgrade_lemmas.proofs.Lists.{drop_end}

some_is : {X : Type 0} (x y : X) → Some x ≡ Some y → x ≡ y
some_is x y h = cc

-- ---- equal terms

same_numbers_is : (as' bs : List ℕ) → same_numbers as' bs ≡ true → as' ≡ bs
same_numbers_is [] [] h = refl
same_numbers_is [] (b ∷ bs) h = absurd (cc)
same_numbers_is (a ∷ as') [] h = absurd (cc)
same_numbers_is (a ∷ as') (b ∷ bs) h =
    let x = both_true (a == b) (same_numbers as' bs) h in
    ap (λ c. c ∷ as') (eqb-true a b x.0) ∙ ap (λ cs. b ∷ cs) (same_numbers_is as' bs x.1)

same_numbers_self : (as' : List ℕ) → same_numbers as' as' ≡ true
same_numbers_self [] = refl
same_numbers_self (a ∷ as') = both_and (a == a) (same_numbers as' as') (eq-eqb a a refl) (same_numbers_self as')

same_int_self : (z : ℤ) → same_int z z ≡ true
same_int_self (pos n) = eq-eqb n n refl
same_int_self (negsuc n) = eq-eqb n n refl

abbrev kind_in : Formula → Kind
kind_in (Node k n fs) = k

abbrev index_in : Formula → ℤ
index_in (Node k n fs) = n

same_term_is : (a b : Term) → same_term a b ≡ true → a ≡ b
same_term_is a b h =
    let x = both_true (same_kind a.kind b.kind) (same_int a.index b.index && same_numbers a.args b.args) h in
    let y = both_true (same_int a.index b.index) (same_numbers a.args b.args) x.1 in
    let nodes : Node a.kind a.index Stop ≡ Node b.kind b.index Stop =
    same_is (Node a.kind a.index Stop) (Node b.kind b.index Stop) (both_and (same_kind a.kind b.kind) (same_int a.index b.index && true) x.0 (both_and (same_int a.index b.index) true y.0 refl)) in
    let args = same_numbers_is a.args b.args y.1 in
    λ i. record { kind = kind_in (nodes i); index = index_in (nodes i); args = args i }

same_term_self : (t : Term) → same_term t t ≡ true
same_term_self t = both_and (same_kind t.kind t.kind) (same_int t.index t.index && same_numbers t.args t.args) (eq-eqb (kind_number t.kind) (kind_number t.kind) refl) (both_and (same_int t.index t.index) (same_numbers t.args t.args) (same_int_self t.index) (same_numbers_self t.args))

-- ---- the number of a term

-- the term stands at the number, counted from n
abbrev StandsFrom : ℕ → List Term → Term → ℕ → Type 0
StandsFrom n ts t id = (k : ℕ) × (id ≡ n + k) × (slice_get ts k ≡ Some t)

number_stands : (n : ℕ) (ts : List Term) (t : Term) (id : ℕ) → number_from n ts t ≡ Some id → StandsFrom n ts t id
number_stands n [] t id h = absurd (cc)
number_stands n (a ∷ as') t id h = by_test (same_term a t) refl h (number_stands (suc n) as' t id)
  where
    by_test : (b : Bool) → same_term a t ≡ b → (if b then Some n else number_from (suc n) as' t) ≡ Some id → (number_from (suc n) as' t ≡ Some id → StandsFrom (suc n) as' t id) → StandsFrom n (a ∷ as') t id
    by_test true q h others = (0, (let e : n ≡ id = some_is n id h in omega (arith, e)), ap Some (same_term_is a t q))
    by_test false q h others = let (k, e, at) = others h in (suc k, omega (arith, e), at)

no_number : (n : ℕ) (ts : List Term) (t : Term) → number_from n ts t ≡ None → (k : ℕ) → slice_get ts k ≡ Some t → ⊥
no_number n [] t h k at = absurd (cc)
no_number n (a ∷ as') t h k at = by_test (same_term a t) refl h (no_number (suc n) as' t) k at
  where
    by_place : same_term a t ≡ false → ((k : ℕ) → slice_get as' k ≡ Some t → ⊥) → (k : ℕ) → slice_get (a ∷ as') k ≡ Some t → ⊥
    by_place q others zero at =
        let same : a ≡ t = some_is a t at in
        let yes : same_term a t ≡ true = ap (λ (x : Term). same_term a x) (sym same) ∙ same_term_self a in
        let both : true ≡ false = sym yes ∙ q in
        absurd (cc)
    by_place q others (suc k) at = others k at

    by_test : (b : Bool) → same_term a t ≡ b → (if b then Some n else number_from (suc n) as' t) ≡ None → (number_from (suc n) as' t ≡ None → (k : ℕ) → slice_get as' k ≡ Some t → ⊥) → (k : ℕ) → slice_get (a ∷ as') k ≡ Some t → ⊥
    by_test true q h others k at = absurd (cc)
    by_test false q h others k at = by_place q (others h) k at

contained_gets : (ts : List Term) (t : Term) → Contains ts t → (k : ℕ) × (slice_get ts k ≡ Some t)
contained_gets ts t (k, l, e) = (k, slice_get-get_or ts k t l ∙ ap Some e)

stands_from_0 : (old : List Term) (t : Term) (id : ℕ) → StandsFrom 0 old t id → slice_get old id ≡ Some t
stands_from_0 old t id (k, e, at) = (let same : id ≡ k = omega (arith, e) in ap (λ n. slice_get old n) same ∙ at)

interned_is : (t : Term) (old : List Term) → Interns old t (interned t old).terms (interned t old).is
interned_is t old = by_number (number_from 0 old t) refl
  where
    by_number : (o : Option ℕ) → number_from 0 old t ≡ o → Interns old t (numbered_at old t o).terms (numbered_at old t o).is
    by_number None e = inr ((λ c. let (k, at) = contained_gets old t c in no_number 0 old t e k at), refl, refl)
    by_number (Some id) e = inl (refl, stands_from_0 old t id (number_stands 0 old t id e))

-- ---- the numbering of a formula

mutual
  pub number_is : (f : Formula) (old : List Term) → Numbers f old (number f old).terms (number f old).is
  number_is (Node k n fs) old = let x = number_all fs old in (x.terms, x.is, number_all_is fs old, interned_is (term k n x.is) x.terms)

  pub number_all_is : (fs : Formulas) (old : List Term) → AllNumbers fs old (number_all fs old).terms (number_all fs old).is
  number_all_is Stop old = (refl, refl)
  number_all_is (With f fs) old =
      let x = number f old in
      (x.terms, x.is, (number_all fs x.terms).is, number_is f old, number_all_is fs x.terms, refl)

-- ---- the numbering in a graph

-- what a node is numbered to is what is worked out
pub number_of : (f : Formula) (old new : List Term) (id : ℕ) → IsGraph old → Numbered f old new id → HasNumber f old new id
number_of f old new id graph n =
    let worked : Numbered f old (number f old).terms (number f old).is = record { is = number_is f old } in
    let one = numbered_same f old (number f old).terms new (number f old).is id (numbered f old (number f old).terms (number f old).is graph worked).1 worked n in
    record { is = λ k. record { terms = one.0 k; is = one.1 k } }

-- behind these numbers
abbrev pub behind_ids : List ℕ → Working (List ℕ) → Working (List ℕ)
behind_ids done x = record { terms = x.terms; is = done ++ x.is }

pub record Turn (graph old now : List Term) (nodes done : List ℕ) (i : ℕ) : Type 0 where
  pub left : (fs : List Formula) → StandAll graph nodes fs → number_all (trees fs) old ≡ behind_ids done (number_all (trees (drop i fs)) now)

pub turn_first : (graph old now : List Term) (nodes done : List ℕ) → now ≡ old → done ≡ [] → Turn graph old now nodes done 0
turn_first graph old now nodes done e q = record { left = λ fs all. λ k. behind_ids (sym q k) (number_all (trees fs) (sym e k)) }

pub turn_next : (graph old now next : List Term) (nodes done more : List ℕ) (i id : ℕ) → Turn graph old now nodes done i → i < length nodes → ((f : Formula) → StandsAs graph (get_or nodes i 0) f → HasNumber f now next id) → more ≡ done ++ id ∷ []
    → Turn graph old next nodes more (i + 1)
turn_next graph old now next nodes done more i id turn below made e = record {
  left = λ fs all.
      let here = at i all below in
      let number_here = made here.tree here.here in
      let rest : List Formula = drop (i + 1) fs in
      turn.left fs all
      ∙ (ap (λ (gs : List Formula). behind_ids done (number_all (trees gs) now)) here.is
      ∙ (ap (λ (x : Working ℕ). behind_ids done (with_first x.is (number_all (trees rest) x.terms))) number_here.is
      ∙ ((λ k. record { terms = (number_all (trees rest) next).terms; is = sym (append_assoc done (id ∷ []) (number_all (trees rest) next).is) k })
      ∙ ap (λ (xs : List ℕ). behind_ids xs (number_all (trees rest) next)) (sym e))));
}

pub turn_last : (graph old now : List Term) (nodes done : List ℕ) (i : ℕ) → Turn graph old now nodes done i → length nodes ≤ i → (fs : List Formula) → StandAll graph nodes fs → HaveNumbers fs old now done
turn_last graph old now nodes done i turn end fs all = record {
  are = turn.left fs all ∙ (ap (λ (gs : List Formula). behind_ids done (number_all (trees gs) now)) (drop_end fs i (let long : length nodes ≡ length fs = as_long all in omega arith))
      ∙ (λ k. record { terms = now; is = append-nil done k }));
}
