-- The one step of a lemma is given, so the lemma derives its tree.
use Rattle.std.proofs.Common.{◌≡◌, ℕ, zero, suc, ◌-◌, ◌<◌, ◌≤◌, ℤ, pos, Bool, true, List, [], ◌∷◌, ◌++◌, map, take, drop, length, Option, Some, None, slice_get, option_and_then, if◌then◌else◌, refl, ap, ◌∙◌, subst, arith, length-append}
use Rattle.std.proofs.lemmas.Option.{slice_get_within}
use Rattle.std.proofs.lemmas.List.Elements.{All-nil, All-cons}
use Rattle.terms.specs.declared.term.Term.{Term}
use Rattle.terms.specs.declared.term.Literal.{Literal}
use Rattle.terms.specs.Formula.{Formula}
use Rattle.term_meaning.specs.Meaning.{Language, sort_in}
use Rattle.condition_formulas.specs.Standing.{StandsAs}
use Rattle.vcc_rules.specs.Rows.{yes}
use Rattle.axiom_instances.specs.Axioms.{instance}
use Rattle.axiom_steps.specs.Steps.{natural, instance_at}
use Rattle.axiom_parameters.specs.Parameters.{with_terms}
use Rattle.axiom_parameters.specs.Laws.{NameSameTrees}
use Rattle.axiom_parameters.proofs.Instances.{instance_by_trees}
use Rattle.cert_format.specs.declared.certificate.RuleName.TheVariants as r
use Rattle.cert_format.specs.declared.certificate.Step.{Step}
use Rattle.block_layout.specs.Layout.{Laid, IsLayout, IsLaid, NamesTerms, node_of, node_at, numbers_over, instance_of, truth_value, instance_in}
use Rattle.block_layout.specs.declared.loaded.LoadedStep.{LoadedStep}
use Rattle.block_layout.proofs.Named.{node_stands}
use Rattle.refutation_check.specs.Theorems.{Theorems}
use Rattle.refutation_check.specs.Rows.{IsAxiom, IsGivenAt}
use Rattle.refutation_check.specs.Follows.{Derives}
use Rattle.certificate_upgrade.specs.Lemmas.{numbers_with, axiom_step}
use Rattle.upgrade_laws.proofs.Lists.{some_is, take_front, drop_front, but_last_more, naturals_of}
use Rattle.upgrade_laws.proofs.Tables.{IsTable, table_names, table_sorts, numbers_from}
use Rattle.upgrade_laws.proofs.Instances.{IsInstance, args_is, marks, marks_are}

-- ---- an axiom's numbers in a layout

-- the last of them is the node of the term that it names
pub axiom_over : (names : List ℕ) (before : List ℤ) (n : ℕ) → numbers_over names r.Axiom (before ++ pos n ∷ []) ≡ before ++ pos (node_of names n) ∷ []
axiom_over names before n =
    let zs = before ++ pos n ∷ [] in
    let count : length zs - 1 ≡ length before = omega (arith, length-append before (pos n ∷ [])) in
    ap (λ k. take k zs ++ map (node_at names) (drop k zs)) count
    ∙ (λ i. take_front before (pos n ∷ []) i ++ map (node_at names) (drop_front before (pos n ∷ []) i))

-- ---- the step's instance

module _ {l : Language} {all : List Formula} {numbers : List ℤ} {f : Formula} (i : IsInstance l all numbers f) (also : List Formula) (ids : List ℕ) (t : ℕ)
    (same : NameSameTrees (slice_get all) (slice_get also) (marks i) i.args (with_terms (marks i) i.args ids)) where
  -- the args of the step
  abbrev pub args_there : List ℕ
  args_there = with_terms (marks i) i.args ids

  pub numbers_are : numbers_with l numbers ids t ≡ (i.axiom_number ∷ i.part ∷ map pos args_there) ++ pos t ∷ []
  numbers_are = λ j. take 2 (i.numbers_are j) ++ map pos (with_terms (marks_are i j) (args_is i j) ids) ++ pos t ∷ []

  given : instance_of l also ((i.axiom_number ∷ i.part ∷ map pos args_there) ++ pos t ∷ []) ≡ Some f
  given =
      ap (λ (o : Option (List ℤ)). option_and_then (instance_at l (slice_get also) i.axiom_number i.part) o) (but_last_more (map pos args_there) (pos t))
      ∙ ap (λ (o : Option (List ℕ)). option_and_then (instance l (slice_get also) (natural i.axiom_number) (natural i.part)) o) (naturals_of args_there)
      ∙ instance_by_trees l (slice_get all) (slice_get also) (natural i.axiom_number) (natural i.part) i.args args_there f same i.is

  pub step_instance : instance_in l also (axiom_step l numbers ids t) ≡ Some f
  step_instance =
      ap (λ (ns : List ℤ). option_and_then (truth_value l) (instance_of l also ns)) numbers_are
      ∙ ap (λ (o : Option Formula). option_and_then (truth_value l) o) given
      ∙ ap (λ (b : Bool). if b then Some f else None) i.truth

-- ---- the lemma

module _ (l : Language) (theorems : Theorems) (terms : List Term) (all : List Formula) (table : IsTable l terms all) (zs before : List ℤ) (t : ℕ) (f : Formula) (zs_are : zs ≡ before ++ pos t ∷ []) where
  abbrev names : List ℕ
  names = numbers_from 0 all

  abbrev step : Step
  step = record { rule = r.Axiom; numbers = zs; clause = yes t ∷ [] }

  abbrev laid_step : LoadedStep
  laid_step = record { rule = r.Axiom; numbers = numbers_over names r.Axiom zs; instance = Some (node_of names t) }

  abbrev laid : Laid
  laid = record { nodes = terms; sorts = map (sort_in l) all; root = None; steps = laid_step ∷ []; clauses = (yes (node_of names t) ∷ []) ∷ [] }

  tree_stands : slice_get all t ≡ Some f → StandsAs terms (node_of names t) f
  tree_stands at = node_stands terms names all t f (table_names table) at

  is_laid : instance_in l all step ≡ Some f → slice_get all t ≡ Some f → IsLaid l all terms names step laid_step
  is_laid given at = record { rule = refl; numbers = refl; instance = (f, given, tree_stands at) }

  each_laid : instance_in l all step ≡ Some f → slice_get all t ≡ Some f → (i : ℕ) (s : Step) (x : LoadedStep) → slice_get (step ∷ []) i ≡ Some s → slice_get (laid_step ∷ []) i ≡ Some x → IsLaid l all terms names s x
  each_laid given at zero s x p q = subst (λ (y : LoadedStep). IsLaid l all terms names s y) (some_is laid_step x q) (subst (λ (z : Step). IsLaid l all terms names z laid_step) (some_is step s p) (is_laid given at))
  each_laid given at (suc i) s x p q = absurd (cc)

  own_named : slice_get all t ≡ Some f → NamesTerms (length all) (yes t ∷ [])
  own_named at = All-cons (λ (x : Literal). x.term < length all) (yes t) [] (slice_get_within all t f at) (All-nil (λ (x : Literal). x.term < length all))

  each_named : slice_get all t ≡ Some f → (i : ℕ) (s : Step) → slice_get (step ∷ []) i ≡ Some s → NamesTerms (length all) s.clause
  each_named at zero s p = subst (λ (z : Step). NamesTerms (length all) z.clause) (some_is step s p) (own_named at)
  each_named at (suc i) s p = absurd (cc)

  is_layout : instance_in l all step ≡ Some f → slice_get all t ≡ Some f → IsLayout l all None (step ∷ []) laid
  is_layout given at = record {
    graph = table.graph;
    sorts = table_sorts table;
    names = names;
    shown = table_names table;
    root_is = refl;
    count = refl;
    each = each_laid given at;
    clauses = refl;
    named = each_named at;
  }

  row : IsAxiom (Some (node_of names t)) (numbers_over names r.Axiom zs) (yes (node_of names t) ∷ [])
  row = (before, ap (λ (ns : List ℤ). numbers_over names r.Axiom ns) zs_are ∙ axiom_over names before t, refl)

  step_given : (i : ℕ) → i < 1 → IsGivenAt theorems laid i
  step_given zero h = record { step = laid_step; clause = yes (node_of names t) ∷ []; at = refl; clause_at = refl; row = row; within = λ w leaves. leaves }
  step_given (suc i) h = absurd (omega (arith, h))

  pub derives_tree : instance_in l all step ≡ Some f → slice_get all t ≡ Some f → length terms ≤ 1_048_576 → Derives l theorems [] None (record { terms = terms; steps = step ∷ [] }) ((record { tree = f; positive = true }) ∷ [])
  derives_tree given at few = record {
    laid = laid;
    front = record { trees = all; good = record { first = []; own_trees = refl; added_trees = table.grow }; layout = is_layout given at };
    few = few;
    given = step_given;
    last = (0, yes (node_of names t) ∷ [], refl, refl, (tree_stands at, refl, tt));
  }
