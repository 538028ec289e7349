-- A step that concludes a tree is an instance of an axiom, and its arguments name trees with sorts.
use Rattle.std.proofs.Common.{◌≡◌, ℕ, ℤ, pos, negsuc, Bool, true, false, if◌then◌else◌, List, [], ◌∷◌, ◌++◌, Option, Some, None, slice_get, option_map, option_and_then, refl, ap, sym, ◌∙◌, subst}
use Rattle.terms.specs.declared.term.Literal.{Literal}
use Rattle.terms.specs.declared.sort.Sort.{Sort}
use Rattle.terms.specs.declared.sort.Sort.TheVariants as s
use Rattle.terms.specs.Formula.{Formula}
use Rattle.term_meaning.specs.Meaning.{Language, sort_in}
use Rattle.term_meaning.specs.Filling.{trees}
use Rattle.conditions.specs.Formulas.{same}
use Rattle.conditions.proofs.Same.{same_is}
use Rattle.axiom_instances.specs.Axioms.{instance}
use Rattle.axiom_instances.specs.Fitting.{is_sort}
use Rattle.axiom_steps.specs.Steps.{natural, naturals, instance_at}
use Rattle.axiom_parameters.specs.Parameters.{parameters_of, name_terms, term_numbers, with_terms}
use Rattle.axiom_parameters.specs.Laws.{IsSorted, NameSameTrees, NameSorted}
use Rattle.axiom_parameters.proofs.Sorts.{AreSorted, there}
use Rattle.axiom_parameters.proofs.Instances.{arguments_have_sorts}
use Rattle.cert_format.specs.declared.certificate.RuleName.{RuleName}
use Rattle.cert_format.specs.declared.certificate.RuleName.TheVariants as r
use Rattle.cert_format.specs.declared.certificate.Step.{Step}
use Rattle.block_layout.specs.Trees.{named}
use Rattle.block_layout.specs.Layout.{but_last, instance_of, if_axiom, is_truth, truth_value, instance_in}
use Rattle.block_layout.proofs.Named.{both_named}
use Rattle.certificate_upgrade.specs.Conclusions.{or_empty, both_are, last_tree, clause_tree, conclusion, args_of, arg_marks}
use Rattle.upgrade_laws.proofs.Lists.{some_is}
use Rattle.upgrade_laws.proofs.Tables.{AreAt}

-- ---- what a conclusion says

-- one tree is what both are
by_test : (f g : Formula) (b : Bool) → same f g ≡ b → (h : Formula) → (if b then Some f else None) ≡ Some h → (Some f ≡ Some h) × (Some g ≡ Some h)
by_test f g true e h is = (is, ap Some (sym (same_is f g e)) ∙ is)
by_test f g false e h is = absurd (cc)

both_are_is : (o p : Option Formula) (f : Formula) → both_are o p ≡ Some f → (o ≡ Some f) × (p ≡ Some f)
both_are_is None p f h = absurd (cc)
both_are_is (Some g) None f h = absurd (cc)
both_are_is (Some g) (Some k) f h = by_test g k (same g k) refl f h

axiom_is : (rule : RuleName) (o : Option Formula) (f : Formula) → if_axiom rule o ≡ Some f → (rule ≡ r.Axiom) × (o ≡ Some f)
axiom_is r.Axiom o f h = (refl, h)
axiom_is _ o f h = absurd (cc)

truth_is : (l : Language) (g f : Formula) (b : Bool) → is_truth l g ≡ b → (if b then Some g else None) ≡ Some f → (g ≡ f) × (is_truth l f ≡ true)
truth_is l g f true e h = let same : g ≡ f = some_is g f h in (same, ap (λ (x : Formula). is_truth l x) (sym same) ∙ e)
truth_is l g f false e h = absurd (cc)

-- `axiom N P args t` with these numbers: the instance of its part at the args is the formula, a truth value
pub record IsInstance (l : Language) (all : List Formula) (numbers : List ℤ) (f : Formula) : Type 0 where
  pub axiom_number : ℤ
  pub part : ℤ
  pub rest : List ℤ
  pub before : List ℤ
  pub args : List ℕ
  pub numbers_are : numbers ≡ axiom_number ∷ part ∷ rest
  pub before_are : but_last rest ≡ Some before
  pub args_are : naturals before ≡ Some args
  pub is : instance l (slice_get all) (natural axiom_number) (natural part) args ≡ Some f
  pub truth : is_truth l f ≡ true

instance_is : (l : Language) (all : List Formula) (numbers : List ℤ) (f : Formula) → instance_of l all numbers ≡ Some f → is_truth l f ≡ true → IsInstance l all numbers f
instance_is l all [] f h t = absurd (cc)
instance_is l all (n ∷ []) f h t = absurd (cc)
instance_is l all (n ∷ part ∷ rest) f h t =
    let (before, e, is) = there (instance_at l (slice_get all) n part) (but_last rest) f h in
    let (args, q, given) = there (instance l (slice_get all) (natural n) (natural part)) (naturals before) f is in
    record { axiom_number = n; part = part; rest = rest; before = before; args = args; numbers_are = refl; before_are = e; args_are = q; is = given; truth = t }

-- What a step concludes: it is an `axiom` step, whose instance, last number and clause are of one tree.
pub record Concludes (l : Language) (all : List Formula) (step : Step) (f : Formula) : Type 0 where
  pub rule : step.rule ≡ r.Axiom
  pub formula : instance_in l all step ≡ Some f
  pub instance : IsInstance l all step.numbers f
  pub last : last_tree all step.numbers ≡ Some f
  pub clause : clause_tree all step.clause ≡ Some f

pub concludes : (l : Language) (all : List Formula) (step : Step) (f : Formula) → conclusion l all step ≡ Some f → Concludes l all step f
concludes l all step f h =
    let p = both_are_is (instance_in l all step) (both_are (last_tree all step.numbers) (clause_tree all step.clause)) f h in
    let q = both_are_is (last_tree all step.numbers) (clause_tree all step.clause) f p.1 in
    let a = axiom_is step.rule (option_and_then (truth_value l) (instance_of l all step.numbers)) f p.0 in
    let (g, given, value) = there (truth_value l) (instance_of l all step.numbers) f a.1 in
    let t = truth_is l g f (is_truth l g) refl value in
    record {
      rule = a.0;
      formula = p.0;
      instance = instance_is l all step.numbers f (given ∙ ap Some t.0) t.1;
      last = q.0;
      clause = q.1;
    }

-- the last number names the tree
pub last_is : (all : List Formula) (numbers : List ℤ) (f : Formula) → last_tree all numbers ≡ Some f → (before : List ℤ) × (n : ℕ) × (numbers ≡ before ++ pos n ∷ []) × (slice_get all n ≡ Some f)
last_is all [] f h = absurd (cc)
last_is all (pos n ∷ []) f h = ([], n, refl, h)
last_is all (negsuc n ∷ []) f h = absurd (cc)
last_is all (pos n ∷ m ∷ rest) f h = let (before, k, e, at) = last_is all (m ∷ rest) f h in (pos n ∷ before, k, ap (λ (zs : List ℤ). pos n ∷ zs) e, at)
last_is all (negsuc n ∷ m ∷ rest) f h = let (before, k, e, at) = last_is all (m ∷ rest) f h in (negsuc n ∷ before, k, ap (λ (zs : List ℤ). negsuc n ∷ zs) e, at)

-- the clause has one literal, a positive one, which names the tree
positive_is : (all : List Formula) (x : Literal) (f : Formula) (b : Bool) → x.positive ≡ b → (if b then slice_get all x.term else None) ≡ Some f → (x.positive ≡ true) × (slice_get all x.term ≡ Some f)
positive_is all x f true e h = (e, h)
positive_is all x f false e h = absurd (cc)

pub clause_is : (all : List Formula) (clause : List Literal) (f : Formula) → clause_tree all clause ≡ Some f → (x : Literal) × (clause ≡ x ∷ []) × (x.positive ≡ true) × (slice_get all x.term ≡ Some f)
clause_is all [] f h = absurd (cc)
clause_is all (x ∷ []) f h = let p = positive_is all x f x.positive refl h in (x, refl, p.0, p.1)
clause_is all (x ∷ y ∷ rest) f h = absurd (cc)

-- a truth value has a sort
sort_of_test : (t : Sort) (o : Option Sort) → is_sort t o ≡ true → (u : Sort) × (o ≡ Some u)
sort_of_test t None h = absurd (cc)
sort_of_test t (Some u) h = (u, refl)

pub truth_sorted : (l : Language) (f : Formula) → is_truth l f ≡ true → IsSorted l f
truth_sorted l f h = sort_of_test s.Bool (sort_in l f) h

-- ---- its arguments

module _ {l : Language} {all : List Formula} {numbers : List ℤ} {f : Formula} (i : IsInstance l all numbers f) where
  pub args_is : args_of numbers ≡ i.args
  args_is =
      ap (λ (ns : List ℤ). args_of ns) i.numbers_are
      ∙ ap (λ (o : Option (List ℤ)). or_empty (option_and_then naturals o)) i.before_are
      ∙ ap (λ (o : Option (List ℕ)). or_empty o) i.args_are

  abbrev pub marks : List Bool
  marks = name_terms l (parameters_of (natural i.axiom_number) (natural i.part)) i.args

  marks_of_args : args_of (i.axiom_number ∷ i.part ∷ i.rest) ≡ i.args
  marks_of_args = ap (λ (o : Option (List ℤ)). or_empty (option_and_then naturals o)) i.before_are ∙ ap (λ (o : Option (List ℕ)). or_empty o) i.args_are

  pub marks_are : arg_marks l numbers ≡ marks
  marks_are = ap (λ (ns : List ℤ). arg_marks l ns) i.numbers_are ∙ ap (λ (ns : List ℕ). name_terms l (parameters_of (natural i.axiom_number) (natural i.part)) ns) marks_of_args

  pub sorted_args : NameSorted l (slice_get all) marks i.args
  sorted_args = arguments_have_sorts l (slice_get all) (natural i.axiom_number) (natural i.part) i.args f i.is (truth_sorted l f i.truth)

-- numbers of trees with sorts name these
pub sorted_named : (l : Language) (all : List Formula) (bs : List Bool) (ns : List ℕ) → NameSorted l (slice_get all) bs ns → (gs : List Formula) × (named all (term_numbers bs ns) ≡ Some gs) × AreSorted l (trees gs)
sorted_named l all [] ns h = ([], refl, tt)
sorted_named l all (b ∷ bs) [] h = ([], refl, tt)
sorted_named l all (true ∷ bs) (n ∷ ns) h =
    let (gs, e, each) = sorted_named l all bs ns h.1 in
    let (g, at, sort) = h.0 in (
      g ∷ gs,
      ap (λ (o : Option Formula). option_and_then (λ x. option_map (λ more. x ∷ more) (named all (term_numbers bs ns))) o) at ∙ ap (λ (o : Option (List Formula)). option_map (λ more. g ∷ more) o) e,
      (sort, each),
    )
sorted_named l all (false ∷ bs) (n ∷ ns) h = sorted_named l all bs ns h

-- other numbers of the same trees
first_same : (also : List Formula) (bs : List Bool) (ns : List ℕ) (tree : ℕ → Option Formula) (n : ℕ) (x : Formula) (more : List Formula) (ids : List ℕ) → tree n ≡ Some x → AreAt also ids (x ∷ more)
    → ((rest : List ℕ) → AreAt also rest more → NameSameTrees tree (slice_get also) bs ns (with_terms bs ns rest)) → NameSameTrees tree (slice_get also) (true ∷ bs) (n ∷ ns) (with_terms (true ∷ bs) (n ∷ ns) ids)
first_same also bs ns tree n x more [] here at others = absurd at
first_same also bs ns tree n x more (id ∷ ids) here at others = (here ∙ sym at.0, others ids at.1)

pub others_same : (l : Language) (all also : List Formula) (bs : List Bool) (ns ids : List ℕ) (gs : List Formula) → NameSorted l (slice_get all) bs ns → named all (term_numbers bs ns) ≡ Some gs → AreAt also ids gs → NameSameTrees (slice_get all) (slice_get also) bs ns (with_terms bs ns ids)
others_same l all also [] ns ids gs h e at = refl
others_same l all also (b ∷ bs) [] ids gs h e at = refl
others_same l all also (false ∷ bs) (n ∷ ns) ids gs h e at = (refl, others_same l all also bs ns ids gs h e at)
others_same l all also (true ∷ bs) (n ∷ ns) ids gs h e at =
    let (x, more, here, rest, is) = both_named (slice_get all n) (named all (term_numbers bs ns)) gs e in
    first_same also bs ns (slice_get all) n x more ids here (subst (λ (xs : List Formula). AreAt also ids xs) is at) (λ others there. others_same l all also bs ns others more h.1 rest there)
