-- What a local run fails, a lazy run fails: what others do before quiet code they may as well do before the next code that sees it.
use Rattle.std.proofs.Common.{◌≡◌, ℕ, ◌+◌, Bool, true, false, not, ◌||◌, List, [], ◌∷◌, length, Option, None, ◌⊎◌, inl, inr, ⊎_elim, refl, sym, ap, ◌∙◌, subst}
use Rattle.std.proofs.lemmas.Bool.{both_ways, or_parts}
use Rattle.object_types.specs.declared.references.Ref.{Ref}
use Rattle.object_types.specs.declared.values.Value.{Value}
use Rattle.method.specs.declared.program.Expr.{Expr}
use Rattle.method.specs.declared.program.Spec.{Spec}
use Rattle.method.specs.declared.program.Target.TheVariants.{Local, FieldOf}
use Rattle.method.specs.declared.program.RightSide.TheVariants.{Compute, Malloc, NewClaim, Interlocked}
use Rattle.method.specs.declared.program.Simple.TheVariants.{Assign, ChangeOwned, EndClaim}
use Rattle.method.specs.declared.program.Action.{Action}
use Rattle.method.specs.declared.program.Action.TheVariants.{Simply, Declare, Define, WrapObject, UnwrapObject, AssertSpec, FreeObject, SpawnThread, Atomic}
use Rattle.method.specs.declared.program.Stmt.{Stmt, Row_of-Stmt, end_of-Stmt, more_of-Stmt}
use Rattle.method.specs.declared.program.Stmt.TheVariants.{Do, If', While', DoWhile', Unwrapping', Call, Return}
use Rattle.method.specs.declared.program.FunctionInfo.{FunctionInfo}
use Rattle.method.specs.declared.program.Program.{Program}
use Rattle.object_types.specs.References.{thread}
use Rattle.object_types.specs.Heap.{Heap}
use Rattle.method.specs.Rely.{Rely}
use Rattle.method.specs.Expressions.{End, Misfit, Failed, Gave, Outcome, Context, checks, eval}
use Rattle.method.specs.Actions.{Supply, Chosen, Progress, spot, starting, act, run_action, action_fits, right_checks, callee}
use Rattle.method.specs.Machine.{begin}
use Rattle.method.specs.Text.{reads, option_reads, specs_read, clauses_read, action_reads, is_quiet, row_sets, stmt_checks, row_checks}
use Rattle.method.specs.LocalRuns.{FailsAt, Moves, Interference, Anywhere, Lazily, Turns, ActsTo, invariants_at, returns, ReachesBy, ReachesRowBy, FailsBy, FailsRowBy, FailsBodyBy, LazyRunsSuffice}
use Rattle.method.proofs.Relies.{rely_composes, rely_rests}
use Rattle.modular_law.proofs.Blind.{eval_blind, invariants_blind, returns_blind, Blindly, map_end, computed, fitting_blind, act_blind}
use Rattle.modular_law.proofs.Marks.{turns_back}
use Rattle.quiet_law.proofs.QuietReads.{eval_quiet}

-- Where others may do more, there are more runs.
module _ (p : Program) (x : Context) (f : FunctionInfo) (M N : Interference) (more : (reads quiet : Bool) (h k : Heap) → M reads quiet h k → N reads quiet h k) where
  mutual
    pub reaches_more : (s : Stmt) (n : ℕ) (h : Heap) (l : List Value) (h' : Heap) (l' : List Value) → ReachesBy p x f M s n h l h' l' → ReachesBy p x f N s n h l h' l'
    reaches_more (Do line a) n h l h' l' r = (r.0, r.1, r.2, more (action_reads a) (is_quiet f a) h r.0 r.3, r.4)
    reaches_more (If' line in_ghost e m a q b) n h l h' l' r = (
      r.0,
      r.1,
      more (reads e) (not in_ghost) h r.0 r.2,
      r.3,
      ⊎_elim (λ y. inl (y.0, row_more a (n + checks e) r.0 l h' l' y.1))
          (λ y. inr (y.0, row_more b (n + checks e + row_checks p f a) r.0 l h' l' y.1)) r.4,
    )
    reaches_more (While' line invs e m row) n h l h' l' r = (r.0, r.1, more (specs_read invs.items || reads e) false h r.0 r.2, r.3, r.4, r.5)
    reaches_more (DoWhile' line invs m row tested e) n h l h' l' r =
        (r.0, r.1, r.2, r.3, r.4, more (specs_read invs.items) false h r.0 r.5, r.6, row_more row (n + length invs.items) r.1 r.2 r.3 l' r.7, more (reads e) false r.3 h' r.8, r.9, r.10)
    reaches_more (Unwrapping' line ty q e m row) n h l h' l' r =
        (r.0, r.1, r.2, r.3, r.4, r.5, r.6, more true false h r.0 r.7, r.8, r.9, row_more row (n + checks e + 3) r.2 r.3 r.4 r.5 r.10, more true false r.4 r.6 r.11, r.12)
    reaches_more (Call line to c q es) n h l h' l' r = (r.0, r.1, r.2, r.3, more true false h r.0 r.4, r.5, r.6, r.7)
    reaches_more (Return line e) n h l h' l' r = absurd r

    pub row_more : {m : _} (row : Row_of-Stmt m) (n : ℕ) (h : Heap) (l : List Value) (h' : Heap) (l' : List Value) → ReachesRowBy p x f M row n h l h' l' → ReachesRowBy p x f N row n h l h' l'
    row_more end_of-Stmt n h l h' l' r = r
    row_more (more_of-Stmt s row) n h l h' l' r = (r.0, r.1, reaches_more s n h l r.0 r.1 r.2, row_more row (n + stmt_checks p f s) r.0 r.1 h' l' r.3)

  module _ (label : ℕ) where
    mutual
      pub fails_more : (s : Stmt) (n : ℕ) (h : Heap) (l : List Value) → FailsBy p x f M label s n h l → FailsBy p x f N label s n h l
      fails_more (Do line a) n h l r = (r.0, r.1, r.2, more (action_reads a) (is_quiet f a) h r.0 r.3, r.4)
      fails_more (If' line in_ghost e m a q b) n h l r = (
        r.0,
        more (reads e) (not in_ghost) h r.0 r.1,
        ⊎_elim (λ y. inl y)
            (λ y. inr (y.0, y.1, ⊎_elim (λ z. inl (z.0, row_fails_more a (n + checks e) r.0 l z.1)) (λ z. inr (z.0, row_fails_more b (n + checks e + row_checks p f a) r.0 l z.1)) y.2)) r.2,
      )
      fails_more (While' line invs e m row) n h l r = (
        r.0,
        more (specs_read invs.items || reads e) false h r.0 r.1,
        ⊎_elim (λ y. inl y) (λ y. inr (
          y.0,
          y.1,
          y.2,
          ⊎_elim (λ z. inl z) (λ z. inr (
            z.0,
            z.1,
            z.2,
            ⊎_elim (λ w. inl (row_fails_more row (n + length invs.items + checks e) y.0 y.1 w))
                (λ w. inr (w.0, w.1, w.2, row_more row (n + length invs.items + checks e) y.0 y.1 w.0 w.1 w.3, more (specs_read invs.items) false w.0 w.2 w.4, w.5)) z.3,
          )) y.3,
        )) r.2,
      )
      fails_more (DoWhile' line invs m row tested e) n h l r = (
        r.0,
        more (specs_read invs.items) false h r.0 r.1,
        ⊎_elim (λ y. inl y) (λ y. inr (
          y.0,
          y.1,
          y.2,
          ⊎_elim (λ z. inl (row_fails_more row (n + length invs.items) y.0 y.1 z)) (λ z. inr (
            z.0,
            z.1,
            z.2,
            row_more row (n + length invs.items) y.0 y.1 z.0 z.1 z.3,
            more (reads e) false z.0 z.2 z.4,
            ⊎_elim (λ w. inl w) (λ w. inr (w.0, w.1, w.2, w.3, more (specs_read invs.items) false z.2 w.1 w.4, w.5)) z.5,
          )) y.3,
        )) r.2,
      )
      fails_more (Unwrapping' line ty q e m row) n h l r = (
        r.0,
        more true false h r.0 r.1,
        ⊎_elim (λ y. inl y) (λ y. inr (
          y.0,
          y.1,
          y.2,
          y.3,
          y.4,
          ⊎_elim (λ z. inl (row_fails_more row (n + checks e + 3) y.1 y.2 z))
              (λ z. inr (z.0, z.1, z.2, row_more row (n + checks e + 3) y.1 y.2 z.0 z.1 z.3, more true false z.0 z.2 z.4, z.5)) y.5,
        )) r.2,
      )
      fails_more (Call line to c q es) n h l r = (r.0, more true false h r.0 r.1, r.2)
      fails_more (Return line e) n h l r = (r.0, more (option_reads e || clauses_read f.ensures_.items) false h r.0 r.1, r.2)

      pub row_fails_more : {m : _} (row : Row_of-Stmt m) (n : ℕ) (h : Heap) (l : List Value) → FailsRowBy p x f M label row n h l → FailsRowBy p x f N label row n h l
      row_fails_more end_of-Stmt n h l r = absurd r
      row_fails_more (more_of-Stmt s row) n h l r = ⊎_elim (λ y. inl (fails_more s n h l y))
          (λ y. inr (y.0, y.1, reaches_more s n h l y.0 y.1 y.2, row_fails_more row (n + stmt_checks p f s) y.0 y.1 y.3)) r

    pub body_fails_more : (ss : List Stmt) (n : ℕ) (h : Heap) (l : List Value) → FailsBodyBy p x f M label ss n h l → FailsBodyBy p x f N label ss n h l
    body_fails_more [] n h l r = (r.0, more (clauses_read f.ensures_.items) false h r.0 r.1, r.2)
    body_fails_more (s ∷ ss) n h l r = ⊎_elim (λ y. inl (fails_more s n h l y)) (λ y. inr (y.0, y.1, reaches_more s n h l y.0 y.1 y.2, body_fails_more ss (n + stmt_checks p f s) y.0 y.1 y.3)) r

-- a lazy run is a local run in which others do nothing before quiet code
pub lazy_is_local : (p : Program) (t : Ref) (reads quiet : Bool) (h k : Heap) → Lazily p t reads quiet h k → Anywhere p t reads quiet h k
lazy_is_local p t true true h k m = subst (λ (j : Heap). Rely p t h j) m.0 (rely_rests p t h m.1)
lazy_is_local p t true false h k m = m
lazy_is_local p t false quiet h k m = m

-- The other way. The heap of the lazy run is the local run's, or others lead from it there.

abbrev pub LeadsTo : Program → Ref → Heap → Heap → Type 0
LeadsTo p t z h = (z ≡ h) ⊎ Rely p t z h

leads_further : (p : Program) (t : Ref) (z h k : Heap) → LeadsTo p t z h → Rely p t h k → Rely p t z k
leads_further p t z h k (inl e) r = subst (λ (y : Heap). Rely p t y k) (sym e) r
leads_further p t z h k (inr s) r = rely_composes p t z h k s r

same_end : (o o' : Outcome Value) (d : End Value) → o' ≡ o → o'.end ≡ d → o.end ≡ d
same_end o o' d e y = subst (λ (u : Outcome Value). u.end ≡ d) e y

leads_same : (p : Program) (t : Ref) (z h k : Heap) → LeadsTo p t z h → h ≡ k → LeadsTo p t z k
leads_same p t z h k b e = subst (λ (y : Heap). LeadsTo p t z y) e b

-- the second outcome, of the local run's heap k, and the first, of j, give the same variables, and the heap each its own
acts_before :
    (p : Program) (x : Context) (f : FunctionInfo) (j k : Heap) (s : Supply) (o o' : Outcome Progress) → Blindly j k s o o' → LeadsTo p x.me j k →
    (h' : Heap) (l' : List Value) → ActsTo p x f o' h' l' → (j' : Heap) × ActsTo p x f o j' l' × LeadsTo p x.me j' h'
acts_before p x f j k s o o' y b h' l' r = by_end y.locals (sym y.other ∙ r.1) y.first
  where
    by_end : (e : End (List Value)) → map_end (λ l. starting k l s) e ≡ Gave r.0 → o.end ≡ map_end (λ l. starting j l s) e → (j' : Heap) × ActsTo p x f o j' l' × LeadsTo p x.me j' h'
    by_end Misfit c d = absurd (cc)
    by_end (Failed n kind line) c d = absurd (cc)
    by_end (Gave m) c d =
        let same : starting k m s ≡ r.0 = cc in
        (j, (starting j m s, d, refl, ap (λ (g : Progress). g.locals) same ∙ r.3), leads_same p x.me j k h' b (ap (λ (g : Progress). g.heap) same ∙ r.2))

fails_before : (label : ℕ) (j k : Heap) (s : Supply) (o o' : Outcome Progress) → Blindly j k s o o' → FailsAt label o' → FailsAt label o
fails_before label j k s o o' y r = by_end y.locals (sym y.other ∙ r.2) y.first
  where
    by_end : (e : End (List Value)) → map_end (λ l. starting k l s) e ≡ Failed label r.0 r.1 → o.end ≡ map_end (λ l. starting j l s) e → FailsAt label o
    by_end Misfit c d = absurd (cc)
    by_end (Failed n kind line) c d = (r.0, r.1, d ∙ cc)
    by_end (Gave m) c d = absurd (cc)

module _ (p : Program) (x : Context) (f : FunctionInfo) where
  -- before a test, of heap k in the local run: the lazy run's heap, where the test comes to the same
  test_step : (q : Bool) (e : Expr) (l : List Value) (z h k : Heap) → LeadsTo p x.me z h → Moves (reads e) p x.me h k
      → (j : Heap) × Lazily p x.me (reads e) q z j × LeadsTo p x.me j k × ((line n : ℕ) (d : End Value) → (eval p (spot x [] line) k l e n).end ≡ d → (eval p (spot x [] line) j l e n).end ≡ d)
  test_step q e l z h k b m = by_reads (reads e) q refl m
    where
      by_reads :
          (r s : Bool) → reads e ≡ r → Moves r p x.me h k →
          (j : Heap) × Lazily p x.me r s z j × LeadsTo p x.me j k × ((line n : ℕ) (d : End Value) → (eval p (spot x [] line) k l e n).end ≡ d → (eval p (spot x [] line) j l e n).end ≡ d)
      by_reads false s is y = (
        z,
        refl,
        leads_same p x.me z h k b y,
        λ line n d came. same_end (eval p (spot x [] line) z l e n) (eval p (spot x [] line) k l e n) d
            (eval_blind p (spot x [] line) k z l e n is) came,
      )
      by_reads true true is y = let r = leads_further p x.me z h k b y in (
        z,
        (refl, r.before),
        inr r,
        λ line n d came. same_end (eval p (spot x [] line) z l e n)
            (eval p (spot x [] line) k l e n) d (eval_quiet p x z k r [] line l e n) came,
      )
      by_reads true false is y = (k, leads_further p x.me z h k b y, inl refl, λ line n d came. came)

  -- before an action
  quiet_action :
      (a : Action) → is_quiet f a ≡ true → (choices : List Value) (s : Supply) (line n : ℕ) (z k : Heap) (l : List Value) → Rely p x.me z k →
      Blindly z k s (run_action p (spot x choices line) a n (starting z l s)) (run_action p (spot x choices line) a n (starting k l s))
  quiet_action (Simply (Assign (Local i) (Compute e))) is choices s line n z k l r =
      let y = computed p (spot x choices line) z k l s i (n + 0) (n + 0 + right_checks p false (Compute e)) e (sym (eval_quiet p x z k r choices line l e (n + 0))) in
      record { locals = y.locals; first = y.first; other = y.other }
  quiet_action (Simply (Assign (Local i) (Malloc ty))) is choices s line n z k l r = absurd (both_ways false refl is)
  quiet_action (Simply (Assign (Local i) (NewClaim q))) is choices s line n z k l r = absurd (both_ways false refl is)
  quiet_action (Simply (Assign (Local i) (Interlocked e g op then'))) is choices s line n z k l r = absurd (both_ways false refl is)
  quiet_action (Simply (Assign (FieldOf e g) q)) is choices s line n z k l r = absurd (both_ways false refl is)
  quiet_action (Simply (ChangeOwned c e es)) is choices s line n z k l r = absurd (both_ways false refl is)
  quiet_action (Simply (EndClaim q e es)) is choices s line n z k l r = absurd (both_ways false refl is)
  quiet_action (Declare i) is choices s line n z k l r = absurd (both_ways false refl is)
  quiet_action (Define i (Compute e)) is choices s line n z k l r = computed p (spot x choices line) z k l s i n (n + right_checks p false (Compute e)) e
      (sym (eval_quiet p x z k r choices line l e n))
  quiet_action (Define i (Malloc ty)) is choices s line n z k l r = absurd (both_ways false refl is)
  quiet_action (Define i (NewClaim q)) is choices s line n z k l r = absurd (both_ways false refl is)
  quiet_action (Define i (Interlocked e g op then')) is choices s line n z k l r = absurd (both_ways false refl is)
  quiet_action (WrapObject ty q e) is choices s line n z k l r = absurd (both_ways false refl is)
  quiet_action (UnwrapObject e) is choices s line n z k l r = absurd (both_ways false refl is)
  quiet_action (AssertSpec e) is choices s line n z k l r = absurd (both_ways false refl is)
  quiet_action (FreeObject e) is choices s line n z k l r = absurd (both_ways false refl is)
  quiet_action (SpawnThread q es) is choices s line n z k l r = absurd (both_ways false refl is)
  quiet_action (Atomic ls body) is choices s line n z k l r = absurd (both_ways false refl is)

  quiet_act :
      (a : Action) → is_quiet f a ≡ true → (choices : List Value) (s : Supply) (line n : ℕ) (z k : Heap) (l : List Value) → Rely p x.me z k →
      Blindly z k s (act p x choices s line a n z l) (act p x choices s line a n k l)
  unfolding act
  quiet_act a is choices s line n z k l r = fitting_blind z k s (action_fits p x.function a choices) _ _ (quiet_action a is choices s line n z k l r)

  -- what the action does from heap k, it does from j
  record ActsAlike (a : Action) (l : List Value) (j k : Heap) : Type 0 where
    acts :
        (choices : List Value) (news : List Ref) (line n : ℕ) (h' : Heap) (l' : List Value) → ActsTo p x f (act p x choices (Chosen news) line a n k l) h' l' →
        (j' : Heap) × ActsTo p x f (act p x choices (Chosen news) line a n j l) j' l' × LeadsTo p x.me j' h'
    fails : (label : ℕ) (choices : List Value) (news : List Ref) (line n : ℕ) → FailsAt label (act p x choices (Chosen news) line a n k l) → FailsAt label (act p x choices (Chosen news) line a n j l)

  alike_from :
      (a : Action) (l : List Value) (j k : Heap) → LeadsTo p x.me j k →
      ((choices : List Value) (news : List Ref) (line n : ℕ) → Blindly j k (Chosen news) (act p x choices (Chosen news) line a n j l) (act p x choices (Chosen news) line a n k l)) →
      ActsAlike a l j k
  alike_from a l j k b y = record {
    acts = λ choices news line n h' l' r. acts_before p x f j k (Chosen news) _ _ (y choices news line n) b h' l' r;
    fails = λ label choices news line n r. fails_before label j k (Chosen news) _ _ (y choices news line n) r;
  }

  act_step : (a : Action) (l : List Value) (z h k : Heap) → LeadsTo p x.me z h → Moves (action_reads a) p x.me h k → (j : Heap) × Lazily p x.me (action_reads a) (is_quiet f a) z j × ActsAlike a l j k
  act_step a l z h k b m = by_reads (action_reads a) (is_quiet f a) refl refl m
    where
      by_reads : (r s : Bool) → action_reads a ≡ r → is_quiet f a ≡ s → Moves r p x.me h k → (j : Heap) × Lazily p x.me r s z j × ActsAlike a l j k
      by_reads false s is of_quiet y = (z, refl, alike_from a l z k (leads_same p x.me z h k b y) (λ choices news line n. act_blind p x choices (Chosen news) line a n z k l is))
      by_reads true true is of_quiet y = let r = leads_further p x.me z h k b y in (
        z,
        (refl, r.before),
        alike_from a l z k (inr r)
            (λ choices news line n. quiet_act a of_quiet choices (Chosen news) line n z k l r),
      )
      by_reads true false is of_quiet y = (k, leads_further p x.me z h k b y, record { acts = (λ choices news line n h' l' r. (h', r, inl refl)); fails = (λ label choices news line n r. r) })

  -- before a loop's checks
  record ChecksAlike (invs : List Spec) (j k : Heap) : Type 0 where
    turns : (set : List ℕ) (k1 : Heap) (l l1 : List Value) → Turns p x f invs set k k1 l l1 → Turns p x f invs set j k1 l l1
    fails : (label line n : ℕ) (l : List Value) → FailsAt label (invariants_at p x f line invs k l n) → FailsAt label (invariants_at p x f line invs j l n)

  loop_step :
      (b : Bool) (invs : List Spec) → (b ≡ false → specs_read invs ≡ false) → (z h k : Heap) → LeadsTo p x.me z h → Moves b p x.me h k →
      (j : Heap) × Lazily p x.me b false z j × ChecksAlike invs j k
  loop_step true invs idle z h k b m = (k, leads_further p x.me z h k b m, record { turns = (λ set k1 l l1 t. t); fails = (λ label line n l r. r) })
  loop_step false invs idle z h k b m = (
    z,
    refl,
    record {
      turns = (λ set k1 l l1 t. by_lead set k1 l l1 t (leads_same p x.me z h k b m));
      fails = (λ label line n l r. (r.0, r.1, sym (invariants_blind p x f z k l line invs n (idle refl)) ∙ r.2));
    },
  )
    where
      by_lead : (set : List ℕ) (k1 : Heap) (l l1 : List Value) → Turns p x f invs set k k1 l l1 → LeadsTo p x.me z k → Turns p x f invs set z k1 l l1
      by_lead set k1 l l1 t (inl e) = subst (λ (y : Heap). Turns p x f invs set y k1 l l1) (sym e) t
      by_lead set k1 l l1 t (inr r) = turns_back p x f invs set z k k1 l l1 (idle refl) r t

  -- before a return
  return_step :
      (label line : ℕ) (e : Option Expr) (n : ℕ) (l : List Value) (z h k : Heap) → LeadsTo p x.me z h →
      Moves (option_reads e || clauses_read f.ensures_.items) p x.me h k → FailsAt label (returns p x f line e n k l)
      → (j : Heap) × Lazily p x.me (option_reads e || clauses_read f.ensures_.items) false z j × FailsAt label (returns p x f line e n j l)
  return_step label line e n l z h k b m r = by_reads (option_reads e || clauses_read f.ensures_.items) refl m
    where
      by_reads : (d : Bool) → option_reads e || clauses_read f.ensures_.items ≡ d → Moves d p x.me h k → (j : Heap) × Lazily p x.me d false z j × FailsAt label (returns p x f line e n j l)
      by_reads true is y = (k, leads_further p x.me z h k b y, r)
      by_reads false is y = (z, refl, (r.0, r.1, sym (returns_blind p x f z k l line e n is) ∙ r.2))

  -- The lazy run comes to the local run's heap, or to one from which others lead there.

  abbrev Lazy : Interference
  Lazy = Lazily p x.me

  mutual
    lazy_reaches :
        (s : Stmt) (n : ℕ) (z h : Heap) (l : List Value) (h' : Heap) (l' : List Value) → LeadsTo p x.me z h → ReachesBy p x f (Anywhere p x.me) s n h l h' l' →
        (z' : Heap) × ReachesBy p x f Lazy s n z l z' l' × LeadsTo p x.me z' h'
    lazy_reaches (Do line a) n z h l h' l' b r =
        let y = act_step a l z h r.0 b r.3 in
        let w = y.2.acts r.1 r.2 line n h' l' r.4 in
        (w.0, (y.0, r.1, r.2, y.1, w.1), w.2)
    lazy_reaches (If' line in_ghost e m a q b') n z h l h' l' b r =
        let y = test_step (not in_ghost) e l z h r.0 b r.2 in
        let came : (eval p (spot x [] line) y.0 l e n).end ≡ Gave r.1 = y.3 line n (Gave r.1) r.3 in
        ⊎_elim (λ w. let t = lazy_reaches_row a (n + checks e) y.0 r.0 l h' l' y.2 w.1 in (t.0, (y.0, r.1, y.1, came, inl (w.0, t.1)), t.2))
        (λ w. let t = lazy_reaches_row b' (n + checks e + row_checks p f a) y.0 r.0 l h' l' y.2 w.1 in (t.0, (y.0, r.1, y.1, came, inr (w.0, t.1)), t.2))
        r.4
    lazy_reaches (While' line invs e m row) n z h l h' l' b r =
        let y = loop_step (specs_read invs.items || reads e) invs.items (λ d. (or_parts (specs_read invs.items) (reads e) d).0) z h r.0 b r.2 in
        (h', (y.0, r.1, y.1, y.2.turns (row_sets row) h' l l' r.3, r.4, r.5), inl refl)
    lazy_reaches (DoWhile' line invs m row tested e) n z h l h' l' b r =
        let y = loop_step (specs_read invs.items) invs.items (λ d. d) z h r.0 b r.5 in
        let t = lazy_reaches_row row (n + length invs.items) r.1 r.1 r.2 r.3 l' (inl refl) r.7 in
        let w = test_step false e l' t.0 r.3 h' t.2 r.8 in
        (w.0, (y.0, r.1, r.2, t.0, r.4, y.1, y.2.turns (row_sets row) r.1 l r.2 r.6, t.1, w.1, w.3 tested (n + length invs.items + row_checks p f row) (Gave r.4) r.9, r.10), w.2)
    lazy_reaches (Unwrapping' line ty q e m row) n z h l h' l' b r =
        let t = lazy_reaches_row row (n + checks e + 3) r.2 r.2 r.3 r.4 r.5 (inl refl) r.10 in
        (h', (r.0, r.1, r.2, r.3, t.0, r.5, r.6, leads_further p x.me z h r.0 b r.7, r.8, r.9, t.1, leads_further p x.me t.0 r.4 r.6 t.2 r.11, r.12), inl refl)
    lazy_reaches (Call line to c q es) n z h l h' l' b r = (h', (r.0, r.1, r.2, r.3, leads_further p x.me z h r.0 b r.4, r.5, r.6, r.7), inl refl)
    lazy_reaches (Return line e) n z h l h' l' b r = absurd r

    lazy_reaches_row :
        {m : _} (row : Row_of-Stmt m) (n : ℕ) (z h : Heap) (l : List Value) (h' : Heap) (l' : List Value) → LeadsTo p x.me z h →
        ReachesRowBy p x f (Anywhere p x.me) row n h l h' l' → (z' : Heap) × ReachesRowBy p x f Lazy row n z l z' l' × LeadsTo p x.me z' h'
    lazy_reaches_row end_of-Stmt n z h l h' l' b r = (z, (refl, r.1), leads_same p x.me z h h' b r.0)
    lazy_reaches_row (more_of-Stmt s row) n z h l h' l' b r =
        let y = lazy_reaches s n z h l r.0 r.1 b r.2 in
        let w = lazy_reaches_row row (n + stmt_checks p f s) y.0 r.0 r.1 h' l' y.2 r.3 in
        (w.0, (y.0, r.1, y.1, w.1), w.2)

  module _ (label : ℕ) where
    -- the second checks of a loop, behind its body
    second : (line n : ℕ) {m : _} (row : Row_of-Stmt m) (invs : List Spec) (k1 : Heap) (l1 : List Value) (place : ℕ)
        → (k2 : Heap) × (l2 : List Value) × (k3 : Heap) × ReachesRowBy p x f (Anywhere p x.me) row n k1 l1 k2 l2 × Moves (specs_read invs) p x.me k2 k3 × FailsAt label
        (invariants_at p x f line invs k3 l2 place)
        → (k2 : Heap) × (l2 : List Value) × (k3 : Heap) × ReachesRowBy p x f Lazy row n k1 l1 k2 l2 × Lazy (specs_read invs) false k2 k3 × FailsAt label (invariants_at p x f line invs k3 l2 place)
    second line n row invs k1 l1 place v =
        let t = lazy_reaches_row row n k1 k1 l1 v.0 v.1 (inl refl) v.3 in
        let g = loop_step (specs_read invs) invs (λ d. d) t.0 v.0 v.2 t.2 v.4 in
        (t.0, v.1, g.0, t.1, g.1, g.2.fails label line place v.1 v.5)

    mutual
      lazy_fails : (s : Stmt) (n : ℕ) (z h : Heap) (l : List Value) → LeadsTo p x.me z h → FailsBy p x f (Anywhere p x.me) label s n h l → FailsBy p x f Lazy label s n z l
      lazy_fails (Do line a) n z h l b r = let y = act_step a l z h r.0 b r.3 in (y.0, r.1, r.2, y.1, y.2.fails label r.1 r.2 line n r.4)
      lazy_fails (If' line in_ghost e m a q b') n z h l b r =
          let y = test_step (not in_ghost) e l z h r.0 b r.1 in (
            y.0,
            y.1,
            ⊎_elim (λ w. inl (w.0, w.1, y.3 line n (Failed label w.0 w.1) w.2))
                (λ w. inr (
                  w.0,
                  y.3 line n (Gave w.0) w.1,
                  ⊎_elim (λ t. inl (t.0, lazy_fails_row a (n + checks e) y.0 r.0 l y.2 t.1))
                      (λ t. inr (t.0, lazy_fails_row b' (n + checks e + row_checks p f a) y.0 r.0 l y.2 t.1)) w.2,
                ))
                r.2,
          )
      lazy_fails (While' line invs e m row) n z h l b r =
          let y = loop_step (specs_read invs.items || reads e) invs.items (λ d. (or_parts (specs_read invs.items) (reads e) d).0) z h r.0 b r.1 in (
            y.0,
            y.1,
            ⊎_elim (λ w. inl (y.2.fails label line n l w)) (λ w. inr (
              w.0,
              w.1,
              y.2.turns (row_sets row) w.0 l w.1 w.2,
              ⊎_elim (λ t. inl t) (λ t. inr (
                t.0,
                t.1,
                t.2,
                ⊎_elim (λ v. inl (lazy_fails_row row (n + length invs.items + checks e) w.0 w.0 w.1 (inl refl) v))
                    (λ v. inr (second line (n + length invs.items + checks e) row invs.items w.0 w.1 (n + length invs.items + checks e + row_checks p f row) v)) t.3,
              )) w.3,
            )) r.2,
          )
      lazy_fails (DoWhile' line invs m row tested e) n z h l b r =
          let y = loop_step (specs_read invs.items) invs.items (λ d. d) z h r.0 b r.1 in (
            y.0,
            y.1,
            ⊎_elim (λ w. inl (y.2.fails label line n l w)) (λ w. inr (
              w.0,
              w.1,
              y.2.turns (row_sets row) w.0 l w.1 w.2,
              ⊎_elim (λ t. inl (lazy_fails_row row (n + length invs.items) w.0 w.0 w.1 (inl refl) t))
                  (λ t.
                  let u = lazy_reaches_row row (n + length invs.items) w.0 w.0 w.1 t.0 t.1 (inl refl) t.3 in
                  let v = test_step false e t.1 u.0 t.0 t.2 u.2 t.4 in
                  let place = n + length invs.items + row_checks p f row in
                  inr (
                    u.0,
                    t.1,
                    v.0,
                    u.1,
                    v.1,
                    ⊎_elim (λ s. inl (s.0, s.1, v.3 tested place (Failed label s.0 s.1) s.2))
                        (λ s.
                        let g = loop_step (specs_read invs.items) invs.items (λ d. d) v.0 t.2 s.1 v.2 s.4 in
                        inr (s.0, g.0, v.3 tested place (Gave s.0) s.2, s.3, g.1, g.2.fails label line (place + checks e) t.1 s.5))
                        t.5,
                  ))
                  w.3,
            )) r.2,
          )
      lazy_fails (Unwrapping' line ty q e m row) n z h l b r = (
        r.0,
        leads_further p x.me z h r.0 b r.1,
        ⊎_elim (λ y. inl y) (λ y. inr (
          y.0,
          y.1,
          y.2,
          y.3,
          y.4,
          ⊎_elim (λ w. inl (lazy_fails_row row (n + checks e + 3) y.1 y.1 y.2 (inl refl) w))
              (λ w. let t = lazy_reaches_row row (n + checks e + 3) y.1 y.1 y.2 w.0 w.1 (inl refl) w.3 in inr (t.0, w.1, w.2, t.1, leads_further p x.me t.0 w.0 w.2 t.2 w.4, w.5)) y.5,
        )) r.2,
      )
      lazy_fails (Call line to c q es) n z h l b r = (r.0, leads_further p x.me z h r.0 b r.1, r.2)
      lazy_fails (Return line e) n z h l b r = return_step label line e n l z h r.0 b r.1 r.2

      lazy_fails_row :
          {m : _} (row : Row_of-Stmt m) (n : ℕ) (z h : Heap) (l : List Value) → LeadsTo p x.me z h → FailsRowBy p x f (Anywhere p x.me) label row n h l →
          FailsRowBy p x f Lazy label row n z l
      lazy_fails_row end_of-Stmt n z h l b r = absurd r
      lazy_fails_row (more_of-Stmt s row) n z h l b r =
          ⊎_elim (λ y. inl (lazy_fails s n z h l b y))
          (λ y. let w = lazy_reaches s n z h l y.0 y.1 b y.2 in inr (w.0, y.1, w.1, lazy_fails_row row (n + stmt_checks p f s) w.0 y.0 y.1 w.2 y.3))
          r

    body_lazy_fails : (ss : List Stmt) (n : ℕ) (z h : Heap) (l : List Value) → LeadsTo p x.me z h → FailsBodyBy p x f (Anywhere p x.me) label ss n h l → FailsBodyBy p x f Lazy label ss n z l
    body_lazy_fails [] n z h l b r = return_step label f.end None n l z h r.0 b r.1 r.2
    body_lazy_fails (s ∷ ss) n z h l b r =
        ⊎_elim (λ y. inl (lazy_fails s n z h l b y))
        (λ y. let w = lazy_reaches s n z h l y.0 y.1 b y.2 in inr (w.0, y.1, w.1, body_lazy_fails ss (n + stmt_checks p f s) w.0 y.0 y.1 w.2 y.3))
        r

pub lazy_runs_suffice : LazyRunsSuffice
lazy_runs_suffice p k label = (
  (λ ok f is t h args good fit met runs. let x = callee p k f (thread t) h args in ok f is t h args good fit met (body_lazy_fails p x f label f.body.items 1 h h (begin p x).locals (inl refl) runs)),
  (λ ok f is t h args good fit met runs.
      let x = callee p k f (thread t) h args in
      ok f is t h args good fit met (body_fails_more p x f (Lazily p (thread t)) (Anywhere p (thread t)) (lazy_is_local p (thread t)) label f.body.items 1 h (begin p x).locals runs)),
)
