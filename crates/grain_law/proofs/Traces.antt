-- The values that an expression reads, one after the other: with all of them read before, it comes to what it comes to at once.
use Rattle.std.proofs.Common.{◌≡◌, ℕ, ◌+◌, Bool, true, false, not, List, [], ◌∷◌, ◌++◌, Option, refl, sym, ap, ◌∙◌, subst}
use Rattle.std.specs.Prelude.{◌-ℤ◌, pos, if◌then◌else◌}
use Rattle.object_types.specs.declared.values.Value.{Value}
use Rattle.object_types.specs.declared.values.Value.TheVariants.{Int}
use Rattle.method.specs.declared.program.CheckKind.{CheckKind}
use Rattle.method.specs.declared.program.CheckKind.TheVariants.{Range, Read, Divide}
use Rattle.method.specs.declared.program.Expr.{Expr}
use Rattle.method.specs.declared.program.Expr.TheVariants.{Number, Null, Variable, Field', Not', Negate', Arithmetic', Compare', And', Or', Choose', Convert'}
use Rattle.method.specs.declared.program.Program.{Program}
use Rattle.object_types.specs.Values.{truth, says, int, referent, is_zero_int}
use Rattle.object_types.specs.Heap.{Heap}
use Rattle.int_ranges.specs.Ranges.{in_range}
use Rattle.method.specs.Overflow.{Overflow}
use Rattle.method.specs.Tables.{read}
use Rattle.method.specs.SpecValue.{compute}
use Rattle.method.specs.Expressions.{End, Misfit, Failed, Gave, Outcome, Gives, after, goes_on, Context, Spot, check, checks, readable, divides, checked_result, eval}
use Rattle.method.specs.Actions.{spot}
use Rattle.grain_law.specs.FieldReads.{Reading, Refuses, Reads, Ends, with_reading, after_reading, next_read, late_check, eval_with}

module _ (here : ℕ) where
  -- it fails so, with no more reads
  abbrev pub Stops : {A : Type 0} → CheckKind → ℕ → End (Reading A) → Type 0
  Stops kind line Misfit = ⊥
  Stops kind line (Failed n k l) = (k ≡ kind) × (l ≡ line)
  Stops kind line (Gave Refuses) = (Read ≡ kind) × (here ≡ line)
  Stops kind line (Gave (Reads v)) = ⊥
  Stops kind line (Gave (Ends a us)) = ⊥

  abbrev pub Finishes : {A : Type 0} → (List Value → Outcome (Reading A)) → End A → Type 0
  Finishes F Misfit = ⊥
  Finishes F (Failed n kind line) = Stops kind line (F []).end
  Finishes F (Gave a) = (us : List Value) → (F us).end ≡ Gave (Ends a us)

  -- these values are read in turn, and then it ends so
  abbrev pub Along : {A : Type 0} → List Value → (List Value → Outcome (Reading A)) → End A → Type 0
  Along [] F e = Finishes F e
  Along (r ∷ rs) F e = ((F []).end ≡ Gave (Reads r)) × Along rs (λ us. F (r ∷ us)) e

  abbrev pub Traces : {A : Type 0} → (List Value → Outcome (Reading A)) → End A → Type 0
  Traces F e = (rs : List Value) × Along rs F e

  finishes_same : {A : Type 0} (F G : List Value → Outcome (Reading A)) (e : End A) → ((us : List Value) → (F us).end ≡ (G us).end) → Finishes G e → Finishes F e
  finishes_same F G Misfit same x = x
  finishes_same F G (Failed n kind line) same x = subst (Stops kind line) (sym (same [])) x
  finishes_same F G (Gave a) same x = λ us. same us ∙ x us

  pub along_same : {A : Type 0} (rs : List Value) (F G : List Value → Outcome (Reading A)) (e : End A) → ((us : List Value) → (F us).end ≡ (G us).end) → Along rs G e → Along rs F e
  along_same [] F G e same x = finishes_same F G e same x
  along_same (r ∷ rs) F G e same x = (same [] ∙ x.0, along_same rs (λ us. F (r ∷ us)) (λ us. G (r ∷ us)) e (λ us. same (r ∷ us)) x.1)

  stops_then : {A B : Type 0} (kind : CheckKind) (line : ℕ) (w : Option Overflow) (e : End (Reading A)) (G : A → List Value → Outcome (Reading B)) → Stops kind line e → Stops kind line (goes_on w e (λ r. with_reading r G)).end
  stops_then kind line w Misfit G x = x
  stops_then kind line w (Failed n k l) G x = x
  stops_then kind line w (Gave Refuses) G x = x
  stops_then kind line w (Gave (Reads v)) G x = absurd x
  stops_then kind line w (Gave (Ends a us)) G x = absurd x

  then_along :
      {A B : Type 0} (rs : List Value) (F : List Value → Outcome (Reading A)) (G : A → List Value → Outcome (Reading B)) (w : Option Overflow) (e : End A) (f : A → Outcome B) → Along rs F e →
      ((a : A) → Traces (G a) (f a).end) → Traces (λ us. after_reading (F us) G) (goes_on w e f).end
  then_along [] F G w Misfit f x k = absurd x
  then_along [] F G w (Failed n kind line) f x k = ([], stops_then kind line (F []).overflow (F []).end G x)
  then_along [] F G w (Gave a) f x k =
      let y = k a in (y.0, along_same y.0 (λ us. after_reading (F us) G) (G a) (f a).end (λ us. ap (λ e. (goes_on (F us).overflow e (λ r. with_reading r G)).end) (x us)) y.1)
  then_along (r ∷ rs) F G w e f x k =
      let y = then_along rs (λ us. F (r ∷ us)) G w e f x.1 k in (r ∷ y.0, (ap (λ e. (goes_on (F []).overflow e (λ r. with_reading r G)).end) x.0, y.1))

  pub then_traces :
      {A B : Type 0} (F : List Value → Outcome (Reading A)) (G : A → List Value → Outcome (Reading B)) (o : Outcome A) (f : A → Outcome B) → Traces F o.end →
      ((a : A) → Traces (G a) (f a).end) → Traces (λ us. after_reading (F us) G) (after o f).end
  then_traces F G o f x k = then_along x.0 F G o.overflow o.end f x.1 k

late_same : (us : List Value) (v : Value) → (late_check us (Gives v) v).end ≡ Gave (Ends v us)
late_same [] v = refl
late_same (u ∷ us) v = refl

module _ (p : Program) (x : Context) (some_choices choices : List Value) (line : ℕ) (h : Heap) (l : List Value) where
  abbrev bare : Spot
  bare = spot x some_choices line

  abbrev at_ : Spot
  at_ = spot x choices line

  read_traces : (may : Bool) (v : Value) (n : ℕ) → Traces line (λ us. next_read us may v) (check at_ may n Read (Gives v)).end
  read_traces true v n = (v ∷ [], (refl, λ us. refl))
  read_traces false v n = ([], (refl, refl))

  range_traces : (b : Bool) (v : Value) (m n : ℕ) → Traces line (λ us. late_check us (check bare b m Range (Gives v)) v) (check at_ b n Range (Gives v)).end
  range_traces true v m n = ([], λ us. late_same us v)
  range_traces false v m n = ([], (refl, refl))

  operator_traces :
      (d z b : Bool) (v : Value) (n : ℕ) →
      Traces line (λ us. late_check us (if d then check bare z 0 Divide (check bare b (0 + 1) Range (Gives v)) else check bare b 0 Range (Gives v)) v) (if d then check at_ z n Divide (check at_ b (n + 1) Range (Gives v)) else check at_ b n Range (Gives v)).end
  operator_traces true true b v n = range_traces b v (0 + 1) (n + 1)
  operator_traces true false b v n = ([], (refl, refl))
  operator_traces false z b v n = range_traces b v 0 n

  truth_traces : (b : Expr) (n : ℕ) → Traces line (eval_with p bare h l b) (eval p at_ h l b n).end → Traces line (λ us. after_reading (eval_with p bare h l b us) (λ w ws. Gives (Ends (says (truth w)) ws))) (after (eval p at_ h l b n) (λ w. Gives (says (truth w)))).end
  truth_traces b n x = then_traces line (eval_with p bare h l b) (λ w ws. Gives (Ends (says (truth w)) ws)) (eval p at_ h l b n) (λ w. Gives (says (truth w))) x (λ w. ([], λ us. refl))

  and_traces :
      (t : Bool) (b : Expr) (n : ℕ) → Traces line (eval_with p bare h l b) (eval p at_ h l b n).end →
      Traces line (λ us. if t then after_reading (eval_with p bare h l b us) (λ w ws. Gives (Ends (says (truth w)) ws)) else Gives (Ends (says false) us)) (if t then after (eval p at_ h l b n) (λ w. Gives (says (truth w))) else Gives (says false)).end
  and_traces true b n x = truth_traces b n x
  and_traces false b n x = ([], λ us. refl)

  or_traces :
      (t : Bool) (b : Expr) (n : ℕ) → Traces line (eval_with p bare h l b) (eval p at_ h l b n).end →
      Traces line (λ us. if t then Gives (Ends (says true) us) else after_reading (eval_with p bare h l b us) (λ w ws. Gives (Ends (says (truth w)) ws))) (if t then Gives (says true) else after (eval p at_ h l b n) (λ w. Gives (says (truth w)))).end
  or_traces true b n x = ([], λ us. refl)
  or_traces false b n x = truth_traces b n x

  choice_traces :
      (t : Bool) (b c : Expr) (n m : ℕ) → Traces line (eval_with p bare h l b) (eval p at_ h l b n).end → Traces line (eval_with p bare h l c) (eval p at_ h l c m).end →
      Traces line (λ us. if t then eval_with p bare h l b us else eval_with p bare h l c us) (if t then eval p at_ h l b n else eval p at_ h l c m).end
  choice_traces true b c n m x y = x
  choice_traces false b c n m x y = y

  pub eval_traces : (e : Expr) (n : ℕ) → Traces line (eval_with p bare h l e) (eval p at_ h l e n).end
  eval_traces (Number z) n = ([], λ us. refl)
  eval_traces Null n = ([], λ us. refl)
  eval_traces (Variable i) n = ([], λ us. refl)
  eval_traces (Field' q e f) n =
      then_traces line (eval_with p bare h l e) _ (eval p at_ h l e n) _ (eval_traces e n) (λ v. read_traces (readable p at_ h (referent v) f) (read p h (referent v) f) (n + checks e))
  eval_traces (Not' q e) n = then_traces line (eval_with p bare h l e) _ (eval p at_ h l e n) _ (eval_traces e n) (λ v. ([], λ us. refl))
  eval_traces (Negate' q e c) n = then_traces line (eval_with p bare h l e) _ (eval p at_ h l e n) _ (eval_traces e n) (λ v. range_traces (in_range c (pos 0 -ℤ int v)) (Int (pos 0 -ℤ int v)) 0 (n + checks e))
  eval_traces (Arithmetic' op q a r b c) n =
      then_traces line (eval_with p bare h l a) _ (eval p at_ h l a n) _ (eval_traces a n) (λ v.
      then_traces line (eval_with p bare h l b) _ (eval p at_ h l b (n + checks a)) _ (eval_traces b (n + checks a)) (λ w.
      operator_traces (divides op) (not (is_zero_int (int w))) (in_range c (checked_result op (int v) (int w))) (Int (compute op (int v) (int w))) (n + checks a + checks b)
      )
      )
  eval_traces (Compare' k q a r b) n =
      then_traces line (eval_with p bare h l a) _ (eval p at_ h l a n) _ (eval_traces a n) (λ v.
      then_traces line (eval_with p bare h l b) _ (eval p at_ h l b (n + checks a)) _ (eval_traces b (n + checks a)) (λ w. ([], λ us. refl))
      )
  eval_traces (And' q a r b) n = then_traces line (eval_with p bare h l a) _ (eval p at_ h l a n) _ (eval_traces a n) (λ v. and_traces (truth v) b (n + checks a) (eval_traces b (n + checks a)))
  eval_traces (Or' q a r b) n = then_traces line (eval_with p bare h l a) _ (eval p at_ h l a n) _ (eval_traces a n) (λ v. or_traces (truth v) b (n + checks a) (eval_traces b (n + checks a)))
  eval_traces (Choose' q a r b t c) n =
      then_traces line (eval_with p bare h l a) _ (eval p at_ h l a n) _ (eval_traces a n) (λ v. choice_traces (truth v) b c (n + checks a) (n + checks a + checks b) (eval_traces b (n + checks a)) (eval_traces c (n + checks a + checks b)))
  eval_traces (Convert' q e c) n = then_traces line (eval_with p bare h l e) _ (eval p at_ h l e n) _ (eval_traces e n) (λ v. range_traces (in_range c (int v)) v 0 (n + checks e))

-- Each value of the list is what comes with those before it.
abbrev pub InTurn : {A : Type 0} → (List Value → Outcome (Reading A)) → List Value → Type 0
InTurn F [] = Unit {0}
InTurn F (v ∷ vs) = ((F []).end ≡ Gave (Reads v)) × InTurn (λ us. F (v ∷ us)) vs

pub one_more : {A : Type 0} (F : List Value → Outcome (Reading A)) (vs : List Value) (v : Value) → InTurn F vs → (F vs).end ≡ Gave (Reads v) → InTurn F (vs ++ v ∷ [])
one_more F [] v x e = (e, tt)
one_more F (u ∷ us) v x e = (x.0, one_more (λ ws. F (u ∷ ws)) us v x.1 e)

abbrev pub Fails : {A : Type 0} → End A → Type 0
Fails Misfit = ⊥
Fails (Failed n kind line) = Unit {0}
Fails (Gave a) = ⊥

-- how something ends at once, by how it ends with these values read before
abbrev pub EndsAtOnce : {A : Type 0} → End (Reading A) → End A → Type 0
EndsAtOnce Misfit e = ⊥
EndsAtOnce (Failed n kind line) e = Fails e
EndsAtOnce (Gave Refuses) e = Fails e
EndsAtOnce (Gave (Reads v)) e = Unit {0}
EndsAtOnce (Gave (Ends a us)) e = e ≡ Gave a

abbrev Coming : {A : Type 0} → End (Reading A) → Type 0
Coming Misfit = ⊥
Coming (Failed n kind line) = ⊥
Coming (Gave Refuses) = ⊥
Coming (Gave (Reads v)) = Unit {0}
Coming (Gave (Ends a us)) = ⊥

abbrev coming : {A : Type 0} → Value → End (Reading A) → Value
coming d Misfit = d
coming d (Failed n kind line) = d
coming d (Gave Refuses) = d
coming d (Gave (Reads v)) = v
coming d (Gave (Ends a us)) = d

module _ (here : ℕ) where
  stops_at_once : {A : Type 0} (kind : CheckKind) (line : ℕ) (x : End (Reading A)) (e : End A) → Fails e → Stops here kind line x → EndsAtOnce x e
  stops_at_once kind line Misfit e f s = s
  stops_at_once kind line (Failed n k l) e f s = f
  stops_at_once kind line (Gave Refuses) e f s = f
  stops_at_once kind line (Gave (Reads v)) e f s = tt
  stops_at_once kind line (Gave (Ends a us)) e f s = absurd s

  finishes_at_once : {A : Type 0} (F : List Value → Outcome (Reading A)) (e : End A) → Finishes here F e → EndsAtOnce (F []).end e
  finishes_at_once F Misfit x = absurd x
  finishes_at_once F (Failed n kind line) x = stops_at_once kind line (F []).end (Failed n kind line) tt x
  finishes_at_once F (Gave a) x = subst (λ y. EndsAtOnce y (Gave a)) (sym (x [])) refl

  not_coming : {A : Type 0} (F : List Value → Outcome (Reading A)) (e : End A) (v : Value) → Finishes here F e → (F []).end ≡ Gave (Reads v) → ⊥
  not_coming F Misfit v x c = x
  not_coming F (Failed n kind line) v x c = subst (Stops here kind line) c x
  not_coming F (Gave a) v x c = subst Coming (sym c ∙ x []) tt

  pub complete : {A : Type 0} (vs rs : List Value) (F : List Value → Outcome (Reading A)) (e : End A) → Along here rs F e → InTurn F vs → EndsAtOnce (F vs).end e
  complete [] [] F e x y = finishes_at_once F e x
  complete [] (r ∷ rs) F e x y = subst (λ z. EndsAtOnce z e) (sym x.0) tt
  complete (v ∷ vs) [] F e x y = absurd (not_coming F e v x y.0)
  complete (v ∷ vs) (r ∷ rs) F e x y = complete vs rs (λ us. F (v ∷ us)) e (subst (λ u. Along here rs (λ us. F (u ∷ us)) e) (ap (coming v) (sym x.0 ∙ y.0)) x.1) y.1
