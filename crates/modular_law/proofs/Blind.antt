-- What doesn't read the heap comes to the same on any.
use Rattle.std.proofs.Common.{◌≡◌, ℕ, ◌+◌, Bool, true, false, not, ◌||◌, ◌&&◌, List, [], ◌∷◌, map, Option, Some, None, slice_set, refl, sym, ap, ◌∙◌, pos}
use Rattle.std.specs.Prelude.{◌-ℤ◌, if◌then◌else◌}
use Rattle.std.proofs.lemmas.Bool.{both_ways, or_parts}
use Rattle.object_types.specs.declared.values.Value.{Value}
use Rattle.object_types.specs.declared.values.Value.TheVariants.{Int}
use Rattle.method.specs.declared.program.CheckKind.{CheckKind}
use Rattle.method.specs.declared.program.CheckKind.TheVariants.{Range, LoopInv, Ensures, Assert}
use Rattle.method.specs.declared.program.Expr.{Expr}
use Rattle.method.specs.declared.program.Expr.TheVariants.{Number, Null, Variable, Field', Not', Negate', Arithmetic', Compare', And', Or', Choose', Convert'}
use Rattle.method.specs.declared.program.Spec.{Spec}
use Rattle.method.specs.declared.program.Spec.TheVariants.{Number as Number', Truth, Null as Null', Variable as Variable', Bound, This, Me, Result, Field' as Field'', Closed', Owner', ClaimCount', Member', Not' as Not'', Negate' as Negate'', Arithmetic' as Arithmetic'', Compare' as Compare'', And' as And'', Or' as Or'', Implies', Iff', Choose' as Choose'', Old', Unchanged', Wrapped', Wrapped0', Mutable', Fresh', ClaimsObject', ClaimsOnly', Claims', Lists', Has, ForAll', Exists'}
use Rattle.method.specs.declared.program.Target.TheVariants.{Local, FieldOf}
use Rattle.method.specs.declared.program.RightSide.TheVariants.{Compute, Malloc, NewClaim, Interlocked}
use Rattle.method.specs.declared.program.Simple.TheVariants.{Assign, ChangeOwned, EndClaim}
use Rattle.method.specs.declared.program.Action.{Action}
use Rattle.method.specs.declared.program.Action.TheVariants.{Simply, Declare, Define, WrapObject, UnwrapObject, AssertSpec, FreeObject, SpawnThread, Atomic}
use Rattle.method.specs.declared.program.Clause.{Clause}
use Rattle.method.specs.declared.program.FunctionInfo.{FunctionInfo}
use Rattle.method.specs.declared.program.Program.{Program}
use Rattle.object_types.specs.Values.{truth, says, int, same_value}
use Rattle.method.specs.Tables.{local}
use Rattle.object_types.specs.Heap.{Heap}
use Rattle.int_ranges.specs.Ranges.{in_range}
use Rattle.method.specs.SpecValue.{Scene, old_scene, value, holds, compute, compare}
use Rattle.method.specs.Expressions.{End, Misfit, Failed, Gave, goes_on, Outcome, Gives, after, Context, Spot, check, check_specs, checks, arithmetic, converted, eval, scene, return_scene, spec_test, clause_tests}
use Rattle.method.specs.Actions.{InLocal, Supply, Progress, Valued, spot, starting, act, run_action, action_fits, fitting, right_side, right_checks, store, no_tally}
use Rattle.method.specs.Machine.{value_of, ensured}
use Rattle.method.specs.Text.{reads, option_reads, spec_reads, specs_read, clauses_read, action_reads, option_checks}
use Rattle.method.specs.LocalRuns.{invariants_at, all_hold_at, returns}

module _ (p : Program) (at_ : Spot) (h k : Heap) (l : List Value) where
  pub eval_blind : (e : Expr) (n : ℕ) → reads e ≡ false → eval p at_ h l e n ≡ eval p at_ k l e n
  eval_blind (Number z) n b = refl
  eval_blind Null n b = refl
  eval_blind (Variable i) n b = refl
  eval_blind (Field' q e f) n b = absurd (both_ways true b refl)
  eval_blind (Not' q e) n b = ap (λ (o : Outcome Value). after o (λ v. Gives (says (not (truth v))))) (eval_blind e n b)
  eval_blind (Negate' q e c) n b = ap (λ (o : Outcome Value). after o (λ v. check at_ (in_range c (pos 0 -ℤ int v)) (n + checks e) Range (Gives (Int (pos 0 -ℤ int v))))) (eval_blind e n b)
  eval_blind (Arithmetic' op q a r b c) n d =
      let x = or_parts (reads a) (reads b) d in
      λ i. after (eval_blind a n x.0 i) (λ v. after (eval_blind b (n + checks a) x.1 i) (λ w. arithmetic at_ op c (int v) (int w) (n + checks a + checks b)))
  eval_blind (Compare' c q a r b) n d =
      let x = or_parts (reads a) (reads b) d in
      λ i. after (eval_blind a n x.0 i) (λ v. after (eval_blind b (n + checks a) x.1 i) (λ w. Gives (says (compare c v w))))
  eval_blind (And' q a r b) n d =
      let x = or_parts (reads a) (reads b) d in
      λ i. after (eval_blind a n x.0 i) (λ v. if truth v then after (eval_blind b (n + checks a) x.1 i) (λ w. Gives (says (truth w))) else Gives (says false))
  eval_blind (Or' q a r b) n d =
      let x = or_parts (reads a) (reads b) d in
      λ i. after (eval_blind a n x.0 i) (λ v. if truth v then Gives (says true) else after (eval_blind b (n + checks a) x.1 i) (λ w. Gives (says (truth w))))
  eval_blind (Choose' q a r b t c) n d =
      let x = or_parts (reads a) (reads b || reads c) d in
      let y = or_parts (reads b) (reads c) x.1 in
      λ i. after (eval_blind a n x.0 i) (λ v. if truth v then eval_blind b (n + checks a) y.0 i else eval_blind c (n + checks a + checks b) y.1 i)
  eval_blind (Convert' q e c) n b = ap (λ (o : Outcome Value). after o (λ v. converted at_ c v (n + checks e))) (eval_blind e n b)

  pub value_of_blind : (e : Option Expr) (n : ℕ) → option_reads e ≡ false → value_of p at_ e h l n ≡ value_of p at_ e k l n
  value_of_blind None n b = refl
  value_of_blind (Some e) n b = eval_blind e n b

abbrev pub on : Scene → Heap → Heap → Scene
on s before after = record s { before = before; after = after }

module _ (p : Program) where
  pub value_blind : (e : Spec) → spec_reads e ≡ false → (s : Scene) (a b : Heap) → value p e (on s a b) ≡ value p e s
  value_blind (Number' z) r s a b = refl
  value_blind (Truth t) r s a b = refl
  value_blind Null' r s a b = refl
  value_blind (Variable' i) r s a b = refl
  value_blind (Bound i) r s a b = refl
  value_blind This r s a b = refl
  value_blind Me r s a b = refl
  value_blind Result r s a b = refl
  value_blind (Field'' q e f) r s a b = absurd (both_ways true r refl)
  value_blind (Closed' q e) r s a b = absurd (both_ways true r refl)
  value_blind (Owner' q e) r s a b = absurd (both_ways true r refl)
  value_blind (ClaimCount' q e) r s a b = absurd (both_ways true r refl)
  value_blind (Member' q e t u) r s a b = absurd (both_ways true r refl)
  value_blind (Not'' q e) r s a b = ap (λ v. says (not (truth v))) (value_blind e r s a b)
  value_blind (Negate'' q e) r s a b = ap (λ v. Int (pos 0 -ℤ int v)) (value_blind e r s a b)
  value_blind (Arithmetic'' op q e t u) r s a b = let x = or_parts (spec_reads e) (spec_reads u) r in λ i. Int (compute op (int (value_blind e x.0 s a b i)) (int (value_blind u x.1 s a b i)))
  value_blind (Compare'' c q e t u) r s a b = let x = or_parts (spec_reads e) (spec_reads u) r in λ i. says (compare c (value_blind e x.0 s a b i) (value_blind u x.1 s a b i))
  value_blind (And'' q e t u) r s a b = let x = or_parts (spec_reads e) (spec_reads u) r in λ i. says (truth (value_blind e x.0 s a b i) && truth (value_blind u x.1 s a b i))
  value_blind (Or'' q e t u) r s a b = let x = or_parts (spec_reads e) (spec_reads u) r in λ i. says (truth (value_blind e x.0 s a b i) || truth (value_blind u x.1 s a b i))
  value_blind (Implies' q e t u) r s a b = let x = or_parts (spec_reads e) (spec_reads u) r in λ i. says (not (truth (value_blind e x.0 s a b i)) || truth (value_blind u x.1 s a b i))
  value_blind (Iff' q e t u) r s a b = let x = or_parts (spec_reads e) (spec_reads u) r in λ i. says
      (if truth (value_blind e x.0 s a b i) then truth (value_blind u x.1 s a b i) else not (truth (value_blind u x.1 s a b i)))
  value_blind (Choose'' q e t u w v) r s a b =
      let x = or_parts (spec_reads e) (spec_reads u || spec_reads v) r in
      let y = or_parts (spec_reads u) (spec_reads v) x.1 in
      λ i. if truth (value_blind e x.0 s a b i) then value_blind u y.0 s a b i else value_blind v y.1 s a b i
  value_blind (Old' q e) r s a b = value_blind e r (old_scene s) a a
  value_blind (Unchanged' q e) r s a b = λ i. says (same_value (value_blind e r (old_scene s) a a i) (value_blind e r s a b i))
  value_blind (Wrapped' q e) r s a b = absurd (both_ways true r refl)
  value_blind (Wrapped0' q e) r s a b = absurd (both_ways true r refl)
  value_blind (Mutable' q e) r s a b = absurd (both_ways true r refl)
  value_blind (Fresh' q e) r s a b = absurd (both_ways true r refl)
  value_blind (ClaimsObject' q e t u) r s a b = absurd (both_ways true r refl)
  value_blind (ClaimsOnly' n q e m row) r s a b = absurd (both_ways true r refl)
  value_blind (Claims' q e m row) r s a b = absurd (both_ways true r refl)
  value_blind (Lists' q e) r s a b = absurd (both_ways true r refl)
  value_blind (Has c) r s a b = absurd (both_ways true r refl)
  value_blind (ForAll' n ty q e t u) r s a b = absurd (both_ways true r refl)
  value_blind (Exists' n ty q e m row) r s a b = absurd (both_ways true r refl)

  pub holds_blind : (e : Spec) → spec_reads e ≡ false → (s : Scene) (k : Heap) → holds p e (record s { after = k }) ≡ holds p e s
  holds_blind e r s k = ap truth (value_blind e r s s.before k)

check_end : {A : Type 0} (at_ : Spot) (b c : Bool) (n : ℕ) (kind : CheckKind) (o o' : Outcome A) → c ≡ b → o'.end ≡ o.end → (check at_ c n kind o').end ≡ (check at_ b n kind o).end
check_end at_ true true n kind o o' e x = x
check_end at_ true false n kind o o' e x = absurd (both_ways false refl e)
check_end at_ false true n kind o o' e x = absurd (both_ways true e refl)
check_end at_ false false n kind o o' e x = refl

after_end : {A B : Type 0} (o : Outcome A) (f g : A → Outcome B) → ((a : A) → (f a).end ≡ (g a).end) → (after o f).end ≡ (after o g).end
after_end {A} {B} o f g x = by_end o.end
  where
    by_end : (e : End A) → (goes_on o.overflow e f).end ≡ (goes_on o.overflow e g).end
    by_end Misfit = refl
    by_end (Failed n kind line) = refl
    by_end (Gave a) = x a

module _ {A : Type 0} (p : Program) (at_ : Spot) (s : Scene) (k : Heap) (kind : CheckKind) (o : Outcome A) where
  specs_blind : (es : List Spec) (n : ℕ) → specs_read es ≡ false →
      (check_specs at_ (map (λ e. spec_test p e (record s { after = k })) es) n kind o).end ≡ (check_specs at_ (map (λ e. spec_test p e s) es) n kind o).end
  specs_blind [] n r = refl
  specs_blind (e ∷ es) n r =
      let y = or_parts (spec_reads e) (specs_read es) r in
      check_end at_ (holds p e s) (holds p e (record s { after = k })) n kind _ _ (holds_blind p e y.0 s k) (specs_blind es (n + 1) y.1)

  clauses_blind : (cs : List Clause) (n : ℕ) → clauses_read cs ≡ false →
      (check_specs at_ (clause_tests p cs (record s { after = k })) n kind o).end ≡ (check_specs at_ (clause_tests p cs s) n kind o).end
  clauses_blind [] n r = refl
  clauses_blind (c ∷ cs) n r =
      let y = or_parts (spec_reads c.spec) (clauses_read cs) r in
      check_end at_ (holds p c.spec s) (holds p c.spec (record s { after = k })) n kind _ _ (holds_blind p c.spec y.0 s k) (clauses_blind cs (n + 1) y.1)

module _ (p : Program) (x : Context) (f : FunctionInfo) (h k : Heap) (l : List Value) where
  pub invariants_blind : (line : ℕ) (invs : List Spec) (n : ℕ) → specs_read invs ≡ false → (invariants_at p x f line invs k l n).end ≡ (invariants_at p x f line invs h l n).end
  invariants_blind line invs n r = specs_blind p (spot x [] line) (scene x h l) k LoopInv (Gives tt) invs n r

  pub all_hold_blind : (invs : List Spec) → specs_read invs ≡ false → all_hold_at p x f invs k l ≡ all_hold_at p x f invs h l
  all_hold_blind [] r = refl
  all_hold_blind (e ∷ es) r =
      let y = or_parts (spec_reads e) (specs_read es) r in
      λ i. holds_blind p e y.0 (scene x h l) k i && all_hold_blind es y.1 i

  pub returns_blind : (line : ℕ) (e : Option Expr) (n : ℕ) → option_reads e || clauses_read f.ensures_.items ≡ false → (returns p x f line e n k l).end ≡ (returns p x f line e n h l).end
  returns_blind line e n r =
      let y = or_parts (option_reads e) (clauses_read f.ensures_.items) r in
      ap (λ (o : Outcome Value). (after o (λ v. check_specs (spot x [] line) (ensured p (Some f) (return_scene x k v)) (n + option_checks e) Ensures (Gives tt))).end)
      (sym (value_of_blind p (spot x [] line) h k l e n y.0))
      ∙ after_end (value_of p (spot x [] line) e h l n) _ _ (λ v. clauses_blind p (spot x [] line) (return_scene x h v) k Ensures (Gives tt) f.ensures_.items (n + option_checks e) y.1)

abbrev pub map_end : {A B : Type 0} → (A → B) → End A → End B
map_end f Misfit = Misfit
map_end f (Failed n kind line) = Failed n kind line
map_end f (Gave a) = Gave (f a)

-- an action that doesn't read the heap changes variables alone
pub record Blindly (h k : Heap) (s : Supply) (o o' : Outcome Progress) : Type 0 where
  pub locals : End (List Value)
  pub first : o.end ≡ map_end (λ l. starting h l s) locals
  pub other : o'.end ≡ map_end (λ l. starting k l s) locals

pub fitting_blind : (h k : Heap) (s : Supply) (b : Bool) (o o' : Outcome Progress) → Blindly h k s o o' → Blindly h k s (fitting b o) (fitting b o')
fitting_blind h k s true o o' y = y
fitting_blind h k s false o o' y = record { locals = Misfit; first = refl; other = refl }

module _ (p : Program) (at_ : Spot) (h k : Heap) (l : List Value) (s : Supply) where
  -- the variable is set to what the expression comes to, where that is the same on both
  pub computed : (i n j : ℕ) (e : Expr) → eval p at_ h l e n ≡ eval p at_ k l e n → Blindly h k s
      (after (right_side p at_ (Compute e) (InLocal i) n no_tally (starting h l s)) (λ v. store p at_ (InLocal i) v.value j v.starting))
      (after (right_side p at_ (Compute e) (InLocal i) n no_tally (starting k l s)) (λ v. store p at_ (InLocal i) v.value j v.starting))
  computed i n j e same = record {
    locals = map_end (λ v. slice_set l i v) (eval p at_ h l e n).end;
    first = by_end h (eval p at_ h l e n).overflow (eval p at_ h l e n).end;
    other = by_end k (eval p at_ k l e n).overflow (eval p at_ k l e n).end ∙ ap (λ (o : Outcome Value). map_end (λ m. starting k m s) (map_end (λ v. slice_set l i v) o.end)) (sym same);
  }
    where
      by_end : (j : Heap) (w : _) (d : End Value) →
          (after {A = Valued} (goes_on w d (λ v. Gives (record { value = v; starting = starting j l s }))) (λ v. store p at_ (InLocal i) v.value n v.starting)).end ≡ map_end
          (λ m. starting j m s) (map_end (λ v. slice_set l i v) d)
      by_end j w Misfit = refl
      by_end j w (Failed m kind line) = refl
      by_end j w (Gave v) = refl

  asserted : (b c : Bool) (n : ℕ) → c ≡ b → Blindly h k s (check at_ b n Assert (Gives (starting h l s))) (check at_ c n Assert (Gives (starting k l s)))
  asserted true true n e = record { locals = Gave l; first = refl; other = refl }
  asserted true false n e = absurd (both_ways false refl e)
  asserted false true n e = absurd (both_ways true e refl)
  asserted false false n e = record { locals = Failed n Assert at_.line; first = refl; other = refl }

  action_blind : (a : Action) (n : ℕ) → action_reads a ≡ false → Blindly h k s (run_action p at_ a n (starting h l s)) (run_action p at_ a n (starting k l s))
  action_blind (Simply (Assign (Local i) (Compute e))) n r = let y = computed i (n + 0) (n + 0 + right_checks p at_.inside (Compute e)) e (eval_blind p at_ h k l e (n + 0) r) in record
      { locals = y.locals; first = y.first; other = y.other }
  action_blind (Simply (Assign (Local i) (Malloc ty))) n r = absurd (both_ways true r refl)
  action_blind (Simply (Assign (Local i) (NewClaim q))) n r = absurd (both_ways true r refl)
  action_blind (Simply (Assign (Local i) (Interlocked e f op then'))) n r = absurd (both_ways true r refl)
  action_blind (Simply (Assign (FieldOf e f) q)) n r = absurd (both_ways true r refl)
  action_blind (Simply (ChangeOwned c e es)) n r = absurd (both_ways true r refl)
  action_blind (Simply (EndClaim q e es)) n r = absurd (both_ways true r refl)
  action_blind (Declare i) n r = record { locals = Gave (slice_set l i (local at_.choices 0)); first = refl; other = refl }
  action_blind (Define i (Compute e)) n r = computed i n (n + right_checks p false (Compute e)) e (eval_blind p at_ h k l e n r)
  action_blind (Define i (Malloc ty)) n r = absurd (both_ways true r refl)
  action_blind (Define i (NewClaim q)) n r = absurd (both_ways true r refl)
  action_blind (Define i (Interlocked e f op then')) n r = absurd (both_ways true r refl)
  action_blind (WrapObject ty q e) n r = absurd (both_ways true r refl)
  action_blind (UnwrapObject e) n r = absurd (both_ways true r refl)
  action_blind (AssertSpec e) n r =
      let y = asserted (holds p e (scene at_.context h l)) (holds p e (scene at_.context k l)) n (holds_blind p e r (scene at_.context h l) k) in
      record { locals = y.locals; first = y.first; other = y.other }
  action_blind (FreeObject e) n r = absurd (both_ways true r refl)
  action_blind (SpawnThread q es) n r = absurd (both_ways true r refl)
  action_blind (Atomic ls body) n r = absurd (both_ways true r refl)

pub act_blind : (p : Program) (x : Context) (choices : List Value) (s : Supply) (line : ℕ) (a : Action) (n : ℕ) (h k : Heap) (l : List Value) → action_reads a ≡ false →
    Blindly h k s (act p x choices s line a n h l) (act p x choices s line a n k l)
unfolding act
act_blind p x choices s line a n h k l r = fitting_blind h k s (action_fits p x.function a choices) _ _ (action_blind p (spot x choices line) h k l s a n r)
