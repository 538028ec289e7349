-- What a text's scope says of what blocks, claims and starts of threads read and set.
use Rattle.std.proofs.Common.{◌≡◌, ℕ, Bool, true, false, ◌&&◌, List, [], ◌∷◌, length, Option, Some, None, slice_get, refl, sym, ◌∙◌, true≢false}
use Rattle.action_conditions.proofs.Assigns.{SeesTarget}
use Rattle.object_types.specs.Sets.{every}
use Rattle.method.specs.declared.program.Expr.{Expr}
use Rattle.method.specs.declared.program.Hole.{Hole}
use Rattle.method.specs.declared.program.Hole.TheVariants.{OfVariable, OfBound, OfMe, OfThis, OfResult}
use Rattle.method.specs.declared.program.Conjunct.{Conjunct}
use Rattle.method.specs.declared.program.Claimed.{Claimed}
use Rattle.method.specs.declared.program.Claimed.TheVariants.{ClaimedVariable, ClaimedNull, ClaimedOther}
use Rattle.method.specs.declared.program.ClaimSite.{ClaimSite}
use Rattle.method.specs.declared.program.Target.{Target}
use Rattle.method.specs.declared.program.Target.TheVariants.{Local, FieldOf}
use Rattle.method.specs.declared.program.Operation.{Operation}
use Rattle.method.specs.declared.program.Operation.TheVariants as ops
use Rattle.method.specs.declared.program.InterlockedResult.{InterlockedResult}
use Rattle.method.specs.declared.program.InterlockedResult.TheVariants as results
use Rattle.method.specs.declared.program.RightSide.{RightSide}
use Rattle.method.specs.declared.program.RightSide.TheVariants.{Compute, Malloc, NewClaim, Interlocked}
use Rattle.method.specs.declared.program.Simple.{Simple}
use Rattle.method.specs.declared.program.Simple.TheVariants.{Assign, ChangeOwned, EndClaim}
use Rattle.method.specs.declared.program.Inner.{Inner, Row_of-Inner, end_of-Inner, more_of-Inner}
use Rattle.method.specs.declared.program.Inner.TheVariants.{Inside, InsideIf'}
use Rattle.method.specs.declared.program.Listed.{Listed}
use Rattle.method.specs.declared.program.FunctionInfo.{FunctionInfo}
use Rattle.method.specs.declared.program.Program.{Program}
use Rattle.method.specs.Text.{inner_row_sets}
use Rattle.method.specs.Actions.{operands, listed_exprs}
use Rattle.method.specs.Scopes.{known, expr_in, hole_in, target_in, claimed_in, site_in, operation_in, afterwards_in, right_in, simple_in, inner_in, inner_row_in}
use Rattle.method.proofs.Global.{and_both}
use Rattle.conditions.specs.Actions.{is_of}
use Rattle.conditions.specs.Quantified.{quantified_formula, listed_quantified}
use Rattle.condition_walks.proofs.Kept.{Out}
use Rattle.condition_walks.proofs.Scoping.{inner_row_known}
use Rattle.condition_walks.proofs.Fitting.{Seen}
use Rattle.action_conditions.proofs.Scopes.{sees_in}
use Rattle.block_conditions.proofs.Interlocked.{AllSee, SeesThen}
use Rattle.block_conditions.proofs.Seeing.{SeesClaimed, SeesHoles, SeesConjuncts, SeesSite, SeesRight, SeesSimple, SeesInner, SeesRow, SeesList}

-- Each end of a claim in a text has its formula in the program.
abbrev pub SimpleHasFormula : Program → Simple → Type 0
SimpleHasFormula p (Assign z r) = Unit {0}
SimpleHasFormula p (ChangeOwned c y ys) = Unit {0}
SimpleHasFormula p (EndClaim q y ys) = quantified_formula p q ≡ Some (listed_quantified q (length ys.items))

abbrev mutual
  pub InnerHasFormulas : Program → Inner → Type 0
  InnerHasFormulas p (Inside line s) = SimpleHasFormula p s
  InnerHasFormulas p (InsideIf' line y m ra n rb) = RowHasFormulas p ra × RowHasFormulas p rb

  pub RowHasFormulas : {m : _} → Program → Row_of-Inner m → Type 0
  RowHasFormulas p end_of-Inner = Unit {0}
  RowHasFormulas p (more_of-Inner i row) = InnerHasFormulas p i × RowHasFormulas p row

-- each end of a claim in the statements of a block has its formula
abbrev pub ListHasFormulas : Program → List Inner → Type 0
ListHasFormulas p [] = Unit {0}
ListHasFormulas p (i ∷ is) = InnerHasFormulas p i × ListHasFormulas p is

module _ (p : Program) (k : ℕ) (f : FunctionInfo) (is : List ℕ) (hid : ℕ → Bool) (seen : Seen p k f is hid) where
  pub all_see : (ys : List Expr) → every (expr_in p f is) ys ≡ true → AllSee hid ys
  all_see [] h = tt
  all_see (y ∷ ys) h = let b = and_both (expr_in p f is y) (every (expr_in p f is) ys) h in (sees_in p k f is hid seen y b.0, all_see ys b.1)

  pub see_listed : (ls : List Listed) → every (λ (i : Listed). expr_in p f is i.object) ls ≡ true → AllSee hid (listed_exprs ls)
  see_listed [] h = tt
  see_listed (l ∷ ls) h = let b = and_both (expr_in p f is l.object) (every (λ (i : Listed). expr_in p f is i.object) ls) h in (sees_in p k f is hid seen l.object b.0, see_listed ls b.1)

  see_target : (z : Target) → target_in p f is z ≡ true → SeesTarget hid z
  see_target (Local i) h = tt
  see_target (FieldOf y g) h = sees_in p k f is hid seen y h

  see_claimed : (cs : List Claimed) → every (claimed_in p f is) cs ≡ true → SeesClaimed hid cs
  see_claimed [] h = tt
  see_claimed (ClaimedVariable i ∷ cs) h = let b = and_both (claimed_in p f is (ClaimedVariable i)) (every (claimed_in p f is) cs) h in (seen i b.0, see_claimed cs b.1)
  see_claimed (ClaimedNull ∷ cs) h = see_claimed cs (and_both (claimed_in p f is ClaimedNull) (every (claimed_in p f is) cs) h).1
  see_claimed (ClaimedOther y ty ∷ cs) h = let b = and_both (claimed_in p f is (ClaimedOther y ty)) (every (claimed_in p f is) cs) h in (sees_in p k f is hid seen y b.0, see_claimed cs b.1)

  see_holes : (hs : List Hole) → every (hole_in p f is) hs ≡ true → SeesHoles hid hs
  see_holes [] h = tt
  see_holes (OfVariable i ∷ hs) h = let b = and_both (hole_in p f is (OfVariable i)) (every (hole_in p f is) hs) h in (seen i b.0, see_holes hs b.1)
  see_holes (OfBound i ∷ hs) h = see_holes hs (and_both (hole_in p f is (OfBound i)) (every (hole_in p f is) hs) h).1
  see_holes (OfMe ∷ hs) h = see_holes hs (and_both (hole_in p f is OfMe) (every (hole_in p f is) hs) h).1
  see_holes (OfThis ∷ hs) h = see_holes hs (and_both (hole_in p f is OfThis) (every (hole_in p f is) hs) h).1
  see_holes (OfResult ∷ hs) h = see_holes hs (and_both (hole_in p f is OfResult) (every (hole_in p f is) hs) h).1

  see_conjuncts : (cs : List Conjunct) → every (λ (c : Conjunct). every (hole_in p f is) c.holes.items) cs ≡ true → SeesConjuncts hid cs
  see_conjuncts [] h = tt
  see_conjuncts (c ∷ cs) h = let b = and_both (every (hole_in p f is) c.holes.items) (every (λ (c : Conjunct). every (hole_in p f is) c.holes.items) cs) h in (see_holes c.holes.items b.0, see_conjuncts cs b.1)

  pub see_site : (o : Option ClaimSite) → site_in p f is o ≡ true → SeesSite hid o
  see_site None h = tt
  see_site (Some s) h =
      let b = and_both (every (known p f is) s.variables.items) (every (claimed_in p f is) s.claimed.items && every (λ (c : Conjunct). every (hole_in p f is) c.holes.items) s.conjuncts.items) h in
      let c = and_both (every (claimed_in p f is) s.claimed.items) (every (λ (c : Conjunct). every (hole_in p f is) c.holes.items) s.conjuncts.items) b.1 in
      (see_claimed s.claimed.items c.0, see_conjuncts s.conjuncts.items c.1)

  see_operation : (op : Operation) → operation_in p f is op ≡ true → AllSee hid (operands op)
  see_operation (ops.CompareExchange new old) h = let b = and_both (expr_in p f is new) (expr_in p f is old) h in (sees_in p k f is hid seen new b.0, (sees_in p k f is hid seen old b.1, tt))
  see_operation (ops.Exchange new) h = (sees_in p k f is hid seen new h, tt)
  see_operation ops.Increment h = tt
  see_operation ops.Decrement h = tt

  see_then : (r : InterlockedResult) → afterwards_in p f is r ≡ true → SeesThen hid r
  see_then (results.Plainly c) h = tt
  see_then (results.Compared c equal y d) h = sees_in p k f is hid seen y h

  see_right : (r : RightSide) → right_in p f is r ≡ true → SeesRight p hid r
  see_right (Compute y) h = sees_in p k f is hid seen y h
  see_right (Malloc ty) h = tt
  see_right (NewClaim n) h = see_site (slice_get p.sites.items n) h
  see_right (Interlocked y g op then') h =
      let b = and_both (expr_in p f is y) (operation_in p f is op && afterwards_in p f is then') h in
      let c = and_both (operation_in p f is op) (afterwards_in p f is then') b.1 in
      (sees_in p k f is hid seen y b.0, see_operation op c.0, see_then then' c.1)

  pub see_simple : (s : Simple) → simple_in p f is s ≡ true → SimpleHasFormula p s → SeesSimple p hid s
  see_simple (Assign z r) h said = let b = and_both (target_in p f is z) (right_in p f is r) h in (see_target z b.0, see_right r b.1)
  see_simple (ChangeOwned c y ys) h said = let b = and_both (expr_in p f is y) (every (expr_in p f is) ys.items) h in (sees_in p k f is hid seen y b.0, all_see ys.items b.1)
  see_simple (EndClaim q y ys) h said = let b = and_both (expr_in p f is y) (every (expr_in p f is) ys.items) h in (sees_in p k f is hid seen y b.0, all_see ys.items b.1, said)

  -- what is hidden isn't set
  unset_row : {m : _} (row : Row_of-Inner m) → inner_row_in p f is row ≡ true → (i : ℕ) → hid i ≡ true → Out (inner_row_sets row) i
  unset_row row h i hidden = by (is_of (inner_row_sets row) i) refl
    where
      by : (b : Bool) → is_of (inner_row_sets row) i ≡ b → is_of (inner_row_sets row) i ≡ false
      by true e = absurd (true≢false (sym hidden ∙ seen i (inner_row_known p f is row i h e)))
      by false e = e

  mutual
    see_inner : (i : Inner) → inner_in p f is i ≡ true → InnerHasFormulas p i → SeesInner p hid i
    see_inner (Inside line s) h said = see_simple s h said
    see_inner (InsideIf' line y m ra n rb) h said =
        let b = and_both (expr_in p f is y) (inner_row_in p f is ra && inner_row_in p f is rb) h in
        let c = and_both (inner_row_in p f is ra) (inner_row_in p f is rb) b.1 in
        (sees_in p k f is hid seen y b.0, see_row ra c.0 said.0, see_row rb c.1 said.1, (λ i hidden. (unset_row ra c.0 i hidden, unset_row rb c.1 i hidden)))

    see_row : {m : _} (row : Row_of-Inner m) → inner_row_in p f is row ≡ true → RowHasFormulas p row → SeesRow p hid row
    see_row end_of-Inner h said = tt
    see_row (more_of-Inner i row) h said = let b = and_both (inner_in p f is i) (inner_row_in p f is row) h in (see_inner i b.0 said.0, see_row row b.1 said.1)

  pub see_list : (ss : List Inner) → every (inner_in p f is) ss ≡ true → ListHasFormulas p ss → SeesList p hid ss
  see_list [] h said = tt
  see_list (i ∷ ss) h said = let b = and_both (inner_in p f is i) (every (inner_in p f is) ss) h in (see_inner i b.0 said.0, see_list ss b.1 said.1)
