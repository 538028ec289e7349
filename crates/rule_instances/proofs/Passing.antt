-- Tests of what was taken, and steps that go on where they are passed.
use Rattle.std.specs.Prelude.{◌≡◌, ℕ, ℤ, Bool, true, false, List, Option, Some, None, Result, Ok, Err, IfOk, slice_get}
use Rattle.std.proofs.Common.{sym, ap, ◌∙◌, subst}
use Rattle.method.specs.declared.program.Program.{Program}
use Rattle.terms.specs.declared.term.Term.{Term}
use Rattle.terms.specs.Formula.{Formula}
use Rattle.term_meaning.specs.Columns.{Column}
use Rattle.term_meaning.specs.Meaning.{Language}
use Rattle.condition_formulas.specs.Standing.{StandsAs}
use Rattle.axiom_steps.specs.declared.steps.Step.{Step}
use Rattle.axiom_steps.specs.declared.steps.Step.TheVariants as s
use Rattle.axiom_steps.specs.declared.steps.Test.{Test}
use Rattle.axiom_steps.specs.Steps.{State, if_any, passes, run}
use Rattle.rule_instances.specs.declared.walk.State.{State as Code}
use Rattle.rule_instances.specs.declared.block.Block.{Block}
use Rattle.rule_instances.specs.Columns.{seen}
use Rattle.rule_instances.specs.Walking.{Matches, Went, Walks, Reads, Makes, Passes}
use Rattle.rule_instances.proofs.Places.{each_at, none_at}
use Rattle.rule_instances.proofs.Reading.{of_sort, not_of_sort}

-- Tests.
pub no_first : {ts : List Term} {c : Code} {st : State} (test : Formula → Bool) → Matches ts c st → None ≡ slice_get c.terms.items 0 → false ≡ if_any test (slice_get st.terms 0)
no_first {ts} {c} {st} test m e = sym (ap (if_any test) (none_at ts c.terms.items st.terms 0 m.terms.each e))

pub the_first : {ts : List Term} {c : Code} {st : State} {id : ℕ} {b : Bool} (test : Formula → Bool) → Matches ts c st → Some id ≡ slice_get c.terms.items 0 → ((f : Formula) → StandsAs ts id f → b ≡ test f) → b ≡ if_any test (slice_get st.terms 0)
the_first {ts} {c} {st} {id} test m e is =
    let one = each_at ts c.terms.items st.terms 0 id m.terms.each e in
    is one.0 one.2 ∙ sym (ap (if_any test) one.1)

pub by_test : {b : Bool} (p : Program) (st : State) {test known : Test} → test ≡ known → b ≡ passes p known st → b ≡ passes p test st
by_test p st is e = e ∙ ap (λ (t : Test). passes p t st) (sym is)

pub by_type : {ts : List Term} {c : Code} {st : State} {b : Bool} (test : ℕ → Bool) → Matches ts c st → b ≡ test c.ty → b ≡ test st.ty
by_type test m e = e ∙ ap test m.ty

pub by_column : {ts : List Term} {c : Code} {st : State} {b : Bool} (test : Column → Bool) → Matches ts c st → b ≡ test (seen c.column) → b ≡ test st.place
by_column test m e = e ∙ ap test m.place

pub by_both : {ts : List Term} {c : Code} {st : State} {b : Bool} (test : ℕ → Column → Bool) → Matches ts c st → b ≡ test c.ty (seen c.column) → b ≡ test st.ty st.place
by_both {c = c} {st} test m e = e ∙ ap (λ (n : ℕ). test n (seen c.column)) m.ty ∙ ap (test st.ty) m.place

-- Steps, each as it is known where the code has come to it.
module _ (block : Block) (ts now : List Term) (before after : Code) (old new : List ℤ) where
  pub walked : {step known : Step} (went : Bool) → step ≡ known → Walks block known ts now before after old new went → Walks block step ts now before after old new went
  walked went is h = λ l tree st b m. subst (λ (s : Step). Went l tree s now after old new st went) (sym is) (h l tree st b m)

  pub ok_walked : {E : Type 0} {step known : Step} (r : Result Bool E) → step ≡ known → IfOk r (Walks block known ts now before after old new) → IfOk r (Walks block step ts now before after old new)
  ok_walked (Ok went) is h = walked went is h
  ok_walked (Err e) is h = tt

module _ (block : Block) (ts : List Term) (before after : Code) (old new : List ℤ) where
  pub ok_read : {E : Type 0} {step known : Step} (r : Result Bool E) → step ≡ known → IfOk r (Reads block known before after old new) → IfOk r (Walks block step ts ts before after old new)
  ok_read (Ok went) is h = walked block ts ts before after old new went is (h ts)
  ok_read (Err e) is h = tt

module _ (block : Block) (ts now : List Term) (before after : Code) (numbers : List ℤ) where
  made : {step known : Step} (went : Bool) → step ≡ known → Makes known ts now before after went → Walks block step ts now before after numbers numbers went
  made went is h = λ l tree st b m. subst (λ (s : Step). Went l tree s now after numbers numbers st went) (sym is) (h l tree st numbers m)

  pub ok_made : {E : Type 0} {step known : Step} (r : Result Bool E) → step ≡ known → IfOk r (Makes known ts now before after) → IfOk r (Walks block step ts now before after numbers numbers)
  ok_made (Ok went) is h = made went is h
  ok_made (Err e) is h = tt

module _ (block : Block) (ts : List Term) (before after : Code) (numbers : List ℤ) where
  pub ok_made_over : {E : Type 0} {step known : Step} (r : Result Bool E) → step ≡ known → IfOk r (λ went. (us : List Term) → Makes known us us before after went) → IfOk r (Walks block step ts ts before after numbers numbers)
  ok_made_over (Ok went) is h = made block ts ts before after numbers went is (h ts)
  ok_made_over (Err e) is h = tt

checked : (l : Language) (tree : ℕ → Option Formula) (test : Test) (ts : List Term) (c : Code) (numbers : List ℤ) (st : State) (b : Bool) → Matches ts c st → b ≡ passes l.program test st → Went l tree (s.Check test) ts c numbers numbers st b
checked l tree test ts c numbers st true m e = record { next = st; matches = m; goes = λ rest. of_sort (passes l.program test st) (run l tree rest st) numbers (sym e) }
checked l tree test ts c numbers st false m e = record { none = λ rest. not_of_sort (passes l.program test st) (run l tree rest st) numbers (sym e) }

pub check_walked : {block : Block} {ts : List Term} {c : Code} (numbers : List ℤ) {step : Step} {test : Test} {b : Bool} {program : Program} → step ≡ s.Check test → block.program.now ≡ program → Passes program test ts c b → Walks block step ts ts c c numbers numbers b
check_walked {ts = ts} {c} numbers {test = test} {b} is same h = λ l tree st k m. subst (λ (x : Step). Went l tree x ts c numbers numbers st b) (sym is) (checked l tree test ts c numbers st b m (h st m ∙ ap (λ (p : Program). passes p test st) (sym same ∙ k.program)))
