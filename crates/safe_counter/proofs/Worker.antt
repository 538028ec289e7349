-- The worker fails none of its checks.
use Rattle.std.proofs.Common.{◌≡◌, ℕ, suc, Bool, true, false, ◌==◌, ◌&&◌, ◌||◌, ⊎_elim, int_le, refl, sym, ap, ◌∙◌, subst, List, [], ◌∷◌, length, if◌then◌else◌, arith}
use Rattle.object_types.specs.declared.references.Ref.{Ref}
use Rattle.object_types.specs.declared.values.Value.{Value}
use Rattle.object_types.specs.declared.values.Value.TheVariants.{Int, Ref as Refers}
use Rattle.method.specs.declared.program.CheckKind.TheVariants.{Assert}
use Rattle.method.specs.declared.program.Action.TheVariants.{AssertSpec}
use Rattle.int_ranges.specs.declared.ctype.CType.TheVariants.{Int as SignedInt}
use Rattle.method.specs.declared.program.DeclaredType.TheVariants.{Integer, Pointer, Claim}
use Rattle.method.specs.declared.program.Expr.TheVariants.{Variable}
use Rattle.method.specs.declared.program.Program.{Program}
use Rattle.object_types.specs.References.{thread, is_null, is_claim, same_ref}
use Rattle.object_types.specs.Values.{int, referent}
use Rattle.object_types.specs.Sets.{is_in}
use Rattle.object_types.specs.Shapes.{has_entry}
use Rattle.object_types.specs.Heap.{Heap, closed_in, is_closed, wrapped}
use Rattle.method.specs.Tables.{in_type, read}
use Rattle.method.specs.Legal.{Good}
use Rattle.method.specs.SpecValue.{holds}
use Rattle.method.specs.Expressions.{Gives, Context, spec_test, scene, call_scene}
use Rattle.method.specs.Actions.{Supply, Chosen, Progress, spot, starting, no_choices, act, callee}
use Rattle.method.specs.Machine.{in_types, fit_parameters, requires_hold, begin}
use Rattle.method.specs.SafeRuns.{RunsBody}
use Rattle.method.specs.Trace.{Memory}
use Rattle.method.proofs.Global.{and_both, both_and}
use Rattle.machine_laws.proofs.Typed.{or_right, or_cases, null_is, ne_eqb}
use Rattle.machine_laws.proofs.Heaps.{in_more, in_one_self, wrapped_parts}
use Rattle.safe_counter.specs.Shared.{program, worker, at_least, work, holds_claim}
use Rattle.safe_counter.proofs.Passing.{Passing, pass_gives, pass_fitting, pass_spec}
use Rattle.safe_counter.proofs.Blocks.{raise_passes}
use Rattle.safe_counter.proofs.Claims.{truth_says, pointer_is, counting, IsHeld, says_least, counter_type, held_on, held_closed, held_holds, held_test}

pub if_both : (b c : Bool) → (if b then c else false) ≡ true → (b ≡ true) × (c ≡ true)
if_both true c e = (refl, e)
if_both false c e = absurd (cc)

claim_is : (v : Value) → in_type Claim v ≡ true → (v ≡ Refers (referent v)) × (is_null (referent v) || is_claim (referent v) ≡ true)
unfolding in_type
claim_is (Int z) e = absurd (cc)
claim_is (Refers r) e = (refl, e)

module _ (m : Memory) where
  abbrev p : Program
  p = program m

  -- the arguments that the worker may have
  record IsArguments (me : Ref) (h : Heap) (args : List Value) : Type 0 where
    claim : Ref
    object : Ref
    least : Value
    is : args ≡ Refers object ∷ least ∷ Refers claim ∷ []
    held : IsHeld m me h claim object least

  held_by : (t : ℕ) (h : Heap) (c r : Ref) (v : Value) → Good p h → is_null r || (r.ty == 3) ≡ true → is_null c || is_claim c ≡ true →
      holds p (holds_claim m) (call_scene (thread t) h (Refers r ∷ v ∷ Refers c ∷ [])) ≡ true → IsHeld m (thread t) h c r v
  held_by t h c r v good rt ct pre =
      let z = and_both (wrapped (thread t) h c && is_in r (h.get c).listed) (has_entry (says_least m r v) (h.get c).shapes && true) (sym (held_test m (thread t) h c r v) ∙ pre) in
      let w = and_both (wrapped (thread t) h c) (is_in r (h.get c).listed) z.0 in
      let closed = (wrapped_parts (thread t) h c w.0).0 in
      let claim : is_claim c ≡ true = ⊎_elim
      (λ n. absurd (cc (closed, ap is_closed (ap (λ (o : Ref). (h.get o).mode) (null_is c n) ∙ good.well_formed.no_null))))
      (λ e. e) (or_cases (is_null c) (is_claim c) ct) in
      let there = (good.well_formed.listed c r (both_and (is_claim c) (closed_in h c && is_in r (h.get c).listed) claim (both_and (closed_in h c) (is_in r (h.get c).listed) closed w.1))).0 in
      record { wrapped = w.0; claim = claim; listed = w.1; shapes = (and_both (has_entry (says_least m r v) (h.get c).shapes) true z.1).0; ty = counter_type m h r good there rt }

  of_three : (t : ℕ) (h : Heap) (a b c : Value) → Good p h → in_types (worker m).variables.items (a ∷ b ∷ c ∷ []) ≡ true → requires_hold p (worker m) (thread t) h (a ∷ b ∷ c ∷ []) ≡ true →
      IsArguments (thread t) h (a ∷ b ∷ c ∷ [])
  of_three t h a b c good fit pre =
      let y = if_both (in_type (Pointer 3) a) _ fit in
      let z = if_both (in_type (Integer SignedInt) b) _ y.1 in
      let w = if_both (in_type Claim c) true z.1 in
      let q = pointer_is a y.0 in
      let d = claim_is c w.0 in
      let is : a ∷ b ∷ c ∷ [] ≡ Refers (referent a) ∷ b ∷ Refers (referent c) ∷ [] = λ i. q.0 i ∷ b ∷ d.0 i ∷ [] in
      record {
        claim = referent c;
        object = referent a;
        least = b;
        is = is;
        held = held_by t h (referent c) (referent a) b good q.1 d.1 (if_both _ true (subst (λ args. requires_hold p (worker m) (thread t) h args ≡ true) is pre)).0;
      }

  arguments : (t : ℕ) (h : Heap) (args : List Value) → Good p h → fit_parameters (worker m) args ≡ true → requires_hold p (worker m) (thread t) h args ≡ true → IsArguments (thread t) h args
  arguments t h [] good fit pre = absurd (cc)
  arguments t h (a ∷ []) good fit pre = absurd (cc)
  arguments t h (a ∷ b ∷ []) good fit pre = absurd (cc)
  arguments t h (a ∷ b ∷ c ∷ []) good fit pre = of_three t h a b c good fit pre
  arguments t h (a ∷ b ∷ c ∷ d ∷ args) good fit pre = absurd
      (cc ((if_both (suc (suc (suc (suc (length args)))) == 3) _ fit).0, ne_eqb (suc (suc (suc (suc (length args))))) 3 (λ z. absurd (omega (arith, z)))))

  assert_passes : (label : ℕ) (rest : Progress → Type 0) (t : ℕ) (x : Context) (choices : List Value) (s : Supply) (n : ℕ) (k : Heap) (c r : Ref) (v : Value) → Good p k →
      IsHeld m x.me k c r v → rest (starting k (Refers r ∷ v ∷ Refers c ∷ []) s) →
      Passing label rest (act p x choices s 4 (AssertSpec (at_least m)) n k (Refers r ∷ v ∷ Refers c ∷ []))
  unfolding act
  assert_passes label rest t x choices s n k c r v good held go = pass_fitting label rest (no_choices choices) _ (λ e.
      pass_spec label rest (spot x choices 4) (spec_test p (at_least m) (scene x k (Refers r ∷ v ∷ Refers c ∷ []))) n Assert (Gives (starting k (Refers r ∷ v ∷ Refers c ∷ []) s))
      (truth_says (int_le (int v) (int (read p k r 0))) ∙ held_holds m x.me k c r v good held) (pass_gives label rest _ go))

  work_passes : (label : ℕ) (rest : Progress → Type 0) (x : Context) (choices : List Value) (s : Supply) (n : ℕ) (k : Heap) (c r : Ref) (v : Value) → Good p k → IsHeld m x.me k c r v →
      ((g : Progress) → rest g) →
      Passing label rest (act p x choices s 5 (work m) n k (Refers r ∷ v ∷ Refers c ∷ []))
  unfolding act
  work_passes label rest x choices s n k c r v good held go = pass_fitting label rest (no_choices choices) _ (λ e.
      raise_passes p (counting m) (spot x choices 5) label rest (record { object = Variable 2; is_claim = true } ∷ record { object = Variable 0; is_claim = false } ∷ []) 5 0 n k
      (Refers r ∷ v ∷ Refers c ∷ []) (Refers c ∷ Refers r ∷ []) s r
      (λ j. refl) (both_and (closed_in k c) (closed_in k r && true) (wrapped_parts x.me k c held.wrapped).0 (both_and (closed_in k r) true (held_closed m x.me k c r v good held) refl))
      (in_more r c (r ∷ []) ∙ or_right (same_ref r c) (is_in r (r ∷ [])) (in_one_self r)) refl refl good held.ty (go _))

  pub worker_runs : (label t : ℕ) (h : Heap) (args : List Value) → Good p h → fit_parameters (worker m) args ≡ true → requires_hold p (worker m) (thread t) h args ≡ true →
      RunsBody p (callee p 0 (worker m) (thread t) h args) (worker m) label (worker m).body.items 1 h (begin p (callee p 0 (worker m) (thread t) h args)).locals
  worker_runs label t h args good fit pre =
      let a = arguments t h args good fit pre in
      let r = a.object in
      let c = a.claim in
      let v = a.least in
      let x = callee p 0 (worker m) (thread t) h (Refers r ∷ v ∷ Refers c ∷ []) in
      subst (λ vs. RunsBody p (callee p 0 (worker m) (thread t) h vs) (worker m) label (worker m).body.items 1 h (begin p (callee p 0 (worker m) (thread t) h vs)).locals) (sym a.is)
      (λ k rely choices news.
      let held = held_on m (thread t) h k c r v rely a.held in
      (assert_passes label _ t x choices (Chosen news) 1 k c r v rely.after held (λ j rely2 choices2 news2.
      (work_passes label _ x choices2 (Chosen news2) _ j c r v rely2.after (held_on m (thread t) k j c r v rely2 held) (λ g k' still. tt)).passes)).passes)
