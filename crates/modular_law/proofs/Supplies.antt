-- Whatever the machine takes, a local run may choose: the same outcome comes of some choice of new references, and of it what is left is what one likes.
use Rattle.std.proofs.Common.{◌≡◌, ◌≢◌, ℕ, zero, suc, ◌+◌, ◌<◌, ◌≤◌, ◌==◌, Bool, true, false, cond, not, ◌&&◌, ◌||◌, ◌⊎◌, inl, inr, List, [], ◌∷◌, length, refl, sym, ap, ◌∙◌, subst, IsTrue, arith, eq-eqb}
use Rattle.std.proofs.lemmas.Bool.{both_ways, or_cases, eqb-true, cases_eq, false_from_ne_true, not-false, or_right}
use Rattle.object_types.specs.declared.references.Ref.{Ref}
use Rattle.method.specs.declared.program.CheckKind.{CheckKind}
use Rattle.object_types.specs.References.{thread, same_ref, is_thread}
use Rattle.object_types.specs.Sets.{some}
use Rattle.object_types.specs.Heap.{Heap, IsFinite, is_absent, fresh, is_idle, idle_from}
use Rattle.object_types.proofs.Fresh.{fresh_is}
use Rattle.method.specs.Expressions.{End, Misfit, Failed, Gave, Outcome, Unfit, Gives, after, goes_on, Spot, Tested, check, check_each, check_spec, check_specs}
use Rattle.method.specs.Actions.{Supply, Fresh, Chosen, Picked, Progress, Valued, Took, take_object, take_thread, fitting}
use Rattle.method.proofs.Global.{and_both, both_and, same_ref_is}
use Rattle.modular_law.proofs.Ends.{Ends, Both, Alike, ends_mono, both_check, both_each, both_spec, both_specs}
use Rattle.modular_law.proofs.Walks.{Above}

-- `lend news a` is a with these new references to come
abbrev pub Same : {A : Type 0} → (List Ref → A → A) → (A → Type 0) → List Ref → A → A → Type 0
Same lend Ok rest a b = Ok a × (b ≡ lend rest a)

abbrev pub Choice : {A : Type 0} → (List Ref → A → A) → (A → Type 0) → Outcome A → (List Ref → Outcome A) → List Ref → Type 0
Choice lend Ok o f rest = (news : List Ref) × Both (Same lend Ok rest) o (f news)

pub record Sim {A : Type 0} (lend : List Ref → A → A) (Ok : A → Type 0) (o : Outcome A) (f : List Ref → Outcome A) : Type 0 where
  pub choice : (rest : List Ref) → Choice lend Ok o f rest

abbrev pub lend : List Ref → Progress → Progress
lend news g = record g { supply = Chosen news }

abbrev pub lend_valued : List Ref → Valued → Valued
lend_valued news v = record { value = v.value; starting = lend news v.starting }

module _ {A : Type 0} (ld : List Ref → A → A) (Ok : A → Type 0) where
  pub sim_gives : (a : A) (f : List Ref → A) → ((rest : List Ref) → f rest ≡ ld rest a) → Ok a → Sim ld Ok (Gives a) (λ news. Gives (f news))
  sim_gives a f e ok = record { choice = λ rest. (rest, record { ends = (ok, e rest) }) }

  pub sim_unfit : (f : List Ref → Outcome A) → Sim ld Ok Unfit f
  sim_unfit f = record { choice = λ rest. (rest, record { ends = tt }) }

  pub sim_mono : (Ok' : A → Type 0) (o : Outcome A) (f : List Ref → Outcome A) → ((a : A) → Ok' a → Ok a) → Sim ld Ok' o f → Sim ld Ok o f
  sim_mono Ok' o f m s = record {
    choice = λ rest. let i = s.choice rest in (
      i.0,
      record
          { ends = ends_mono (Same ld Ok' rest) (Same ld Ok rest) o.end (f i.0).end (λ a b x. (m a x.0, x.1)) i.1.ends },
    );
  }

  pub sim_check : (at_ : Spot) (b : Bool) (n m : ℕ) (kind : CheckKind) (o : Outcome A) (f : List Ref → Outcome A) → Sim ld Ok o f →
      Sim ld Ok (check at_ b n kind o) (λ news. check at_ b m kind (f news))
  sim_check at_ b n m kind o f s = record { choice = λ rest. let i = s.choice rest in (i.0, both_check (Same ld Ok rest) at_ b n m kind o (f i.0) i.1) }

  -- behind a check that passes
  pub sim_each : (at_ : Spot) (bs : List Bool) (n m : ℕ) (kind : CheckKind) (o : Outcome A) (f : List Ref → Outcome A) → Sim ld Ok o f →
      Sim ld Ok (check_each at_ bs n kind o) (λ news. check_each at_ bs m kind (f news))
  sim_each at_ bs n m kind o f s = record { choice = λ rest. let i = s.choice rest in (i.0, both_each (Same ld Ok rest) at_ bs n m kind o (f i.0) i.1) }

  pub sim_spec : (at_ : Spot) (t : Tested) (n m : ℕ) (kind : CheckKind) (o : Outcome A) (f : List Ref → Outcome A) → Sim ld Ok o f →
      Sim ld Ok (check_spec at_ t n kind o) (λ news. check_spec at_ t m kind (f news))
  sim_spec at_ t n m kind o f s = record { choice = λ rest. let i = s.choice rest in (i.0, both_spec (Same ld Ok rest) at_ t n m kind o (f i.0) i.1) }

  pub sim_specs : (at_ : Spot) (ts : List Tested) (n m : ℕ) (kind : CheckKind) (o : Outcome A) (f : List Ref → Outcome A) → Sim ld Ok o f →
      Sim ld Ok (check_specs at_ ts n kind o) (λ news. check_specs at_ ts m kind (f news))
  sim_specs at_ ts n m kind o f s = record { choice = λ rest. let i = s.choice rest in (i.0, both_specs (Same ld Ok rest) at_ ts n m kind o (f i.0) i.1) }

  pub sim_fitting : (b : Bool) (o : Outcome A) (f : List Ref → Outcome A) → Sim ld Ok o f → Sim ld Ok (fitting b o) (λ news. fitting b (f news))
  sim_fitting true o f s = s
  sim_fitting false o f s = record { choice = λ rest. (rest, record { ends = tt }) }

  pub sim_if : (b : Bool) (o o' : Outcome A) (f f' : List Ref → Outcome A) → Sim ld Ok o f → Sim ld Ok o' f' → Sim ld Ok (cond b o o') (λ news. cond b (f news) (f' news))
  sim_if true o o' f f' s s' = s
  sim_if false o o' f f' s s' = s'

  -- ends alone count
  pub sim_ends : (o u : Outcome A) (f g : List Ref → Outcome A) → o.end ≡ u.end → ((news : List Ref) → (f news).end ≡ (g news).end) → Sim ld Ok o f → Sim ld Ok u g
  sim_ends o u f g e d s = record {
    choice = λ rest. let i = s.choice rest in (
      i.0,
      record
          { ends = subst (λ (x : End A). Ends (Same ld Ok rest) x (g i.0).end) e (subst (λ (x : End A). Ends (Same ld Ok rest) o.end x) (d i.0) i.1.ends) },
    );
  }

failed_then : {A B : Type 0} (R : A → A → Type 0) (S : B → B → Type 0) (v : _) (n line : ℕ) (kind : CheckKind) (d : End A) (k : A → Outcome B) → Ends R (Failed n kind line) d →
    Ends S (Failed n kind line) (goes_on v d k).end
failed_then R S v n line kind Misfit k x = x
failed_then R S v n line kind (Failed m other at_line) k x = x
failed_then R S v n line kind (Gave b) k x = absurd x

-- a value is worked out, and then it goes on
gave_same : {V B : Type 0} (a : V) (S : B → B → Type 0) (v : _) (d : End V) (e : End B) (k : V → Outcome B) → Ends (λ a b. b ≡ a) (Gave a) d → Ends S e (k a).end → Ends S e (goes_on v d k).end
gave_same a S v Misfit e k x y = absurd x
gave_same a S v (Failed m other at_line) e k x y = absurd x
gave_same a S v (Gave b) e k x y = subst (λ b. Ends S e (k b).end) (sym x) y

value_then : {V B : Type 0} (ld : List Ref → B → B) (Ok : B → Type 0) (w : _) (e : End V) (o' : List Ref → Outcome V) (k : V → Outcome B) (k' : List Ref → V → Outcome B) →
    ((news : List Ref) → Ends (λ a b. b ≡ a) e (o' news).end) → ((a : V) → Sim ld Ok (k a) (λ news. k' news a)) → (rest : List Ref) →
    Choice ld Ok (goes_on w e k) (λ news. after (o' news) (k' news)) rest
value_then ld Ok w Misfit o' k k' x y rest = (rest, record { ends = tt })
value_then {V} {B} ld Ok w (Failed n kind line) o' k k' x y rest = (
  rest,
  record
      { ends = failed_then (λ (a b : V). b ≡ a) (Same ld Ok rest) (o' rest).overflow n line kind (o' rest).end (k' rest) (x rest) },
)
value_then ld Ok w (Gave a) o' k k' x y rest =
    let i = (y a).choice rest in
    (i.0, record { ends = gave_same a (Same ld Ok rest) (o' i.0).overflow (o' i.0).end (k a).end (k' i.0) (x i.0) i.1.ends })

pub sim_value : {V B : Type 0} (ld : List Ref → B → B) (Ok : B → Type 0) (o : Outcome V) (o' : List Ref → Outcome V) (k : V → Outcome B) (k' : List Ref → V → Outcome B) →
    ((news : List Ref) → Alike o (o' news)) → ((a : V) → Sim ld Ok (k a) (λ news. k' news a)) → Sim ld Ok (after o k) (λ news. after (o' news) (k' news))
sim_value ld Ok o o' k k' x y = record { choice = value_then ld Ok o.overflow o.end o' k k' (λ news. (x news).ends) y }

-- one part of an action, and then the next
gave_ok : {A : Type 0} (P : Type 0) (R : A → A → Type 0) (a : A) (d : End A) → ((b : A) → R a b → P) → Ends R (Gave a) d → P
gave_ok P R a Misfit f x = absurd x
gave_ok P R a (Failed m other at_line) f x = absurd x
gave_ok P R a (Gave b) f x = f b x

gave_then : {A B : Type 0} (Ok : A → Type 0) (a c : A) (S : B → B → Type 0) (v : _) (d : End A) (e : End B) (k : A → Outcome B) → Ends (λ a b. Ok a × (b ≡ c)) (Gave a) d →
    Ends S e (k c).end → Ends S e (goes_on v d k).end
gave_then Ok a c S v Misfit e k x y = absurd x
gave_then Ok a c S v (Failed m other at_line) e k x y = absurd x
gave_then Ok a c S v (Gave b) e k x y = subst (λ b. Ends S e (k b).end) (sym x.1) y

part_then : {A B : Type 0} (la : List Ref → A → A) (OkA : A → Type 0) (lb : List Ref → B → B) (OkB : B → Type 0) (w : _) (e : End A) (f : List Ref → Outcome A) (k : A →
    Outcome B) (k' : List Ref → A → Outcome B) → ((rest : List Ref) → (news : List Ref) × Ends (Same la OkA rest) e (f news).end) →
    ((a : A) → OkA a → Sim lb OkB (k a) (λ news. k' news (la news a))) → ((news rest : List Ref) (a : A) → k' news a ≡ k' rest a) → (rest : List Ref) →
    Choice lb OkB (goes_on w e k) (λ news. after (f news) (k' news)) rest
part_then la OkA lb OkB w Misfit f k k' s y any rest = (rest, record { ends = tt })
part_then la OkA lb OkB w (Failed n kind line) f k k' s y any rest =
    let i = s rest in
    (i.0, record { ends = failed_then (Same la OkA rest) (Same lb OkB rest) (f i.0).overflow n line kind (f i.0).end (k' i.0) i.1 })
part_then la OkA lb OkB w (Gave a) f k k' s y any rest =
    let i = s rest in
    let ok = gave_ok (OkA a) (Same la OkA rest) a (f i.0).end (λ b x. x.0) i.1 in
    let j = (y a ok).choice rest in
    let t = s j.0 in (
      t.0,
      record {
        ends = gave_then OkA a (la j.0 a) (Same lb OkB rest) (f t.0).overflow (f t.0).end (k a).end (k' t.0) t.1
            (subst (λ (o : Outcome _). Ends (Same lb OkB rest) (k a).end o.end) (any j.0 t.0 (la j.0 a)) j.1.ends);
      },
    )

pub sim_after : {A B : Type 0} (la : List Ref → A → A) (OkA : A → Type 0) (lb : List Ref → B → B) (OkB : B → Type 0) (o : Outcome A) (f : List Ref → Outcome A) (k k' : A → Outcome B) →
    Sim la OkA o f → ((a : A) → OkA a → Sim lb OkB (k a) (λ news. k' (la news a))) → Sim lb OkB (after o k) (λ news. after (f news) k')
sim_after la OkA lb OkB o f k k' s y = record { choice = part_then la OkA lb OkB o.overflow o.end f k (λ news. k') (λ rest. let i = s.choice rest in (i.0, i.1.ends)) y (λ news rest a. refl) }

-- an object that is taken
pub record Taken (me : Ref) (ty : ℕ) (h : Heap) (t : Took) : Type 0 where
  pub type_is : t.which.ty ≡ ty
  pub absent : IsTrue (is_absent (h.get t.which).mode)
  pub above : Above me t.supply

abbrev pub with_rest : Took → List Ref → Took
with_rest t news = record { which = t.which; supply = Chosen news }

module _ {B : Type 0} (ld : List Ref → B → B) (Ok : B → Type 0) (me : Ref) (ty : ℕ) (h : Heap) (k k' : Took → Outcome B)
    (next : (t : Took) → Taken me ty h t → Sim ld Ok (k t) (λ news. k' (with_rest t news))) where
  choose : (b : Bool) (t : Took) → b ≡ true → (rest : List Ref) → Taken me ty h t → Choice ld Ok (k t) (λ news. after (cond b (Gives (with_rest t news)) Unfit) k') rest
  choose b t e rest taken =
      let i = (next t taken).choice rest in
      (i.0, record { ends = subst (λ b. Ends (Same ld Ok rest) (k t).end (after (cond b (Gives (with_rest t i.0)) Unfit) k').end) (sym e) i.1.ends })

  taken_object : (s : Supply) → IsFinite h → Above me s → (rest : List Ref) → Choice ld Ok (after (take_object s ty h) k) (λ news. after (take_object (Chosen news) ty h) k') rest
  taken_object (Fresh n) finite above rest =
      let t : Took = record { which = fresh h ty; supply = Fresh n } in
      let absent = (fresh_is h ty finite).above (fresh h ty).serial (omega arith) in
      let i = choose (((fresh h ty).ty == ty) && is_absent (h.get (fresh h ty)).mode) t (both_and _ _ (eq-eqb ty ty refl) absent) rest (record { type_is = refl; absent = absent; above = above }) in
      (fresh h ty ∷ i.0, record { ends = i.1.ends })
  taken_object (Chosen rs) finite above rest = absurd above
  taken_object (Picked n []) finite above rest = (rest, record { ends = tt })
  taken_object (Picked n (r ∷ rs)) finite above rest = by_test ((r.ty == ty) && is_absent (h.get r).mode) refl
    where
      by_test : (b : Bool) → (r.ty == ty) && is_absent (h.get r).mode ≡ b →
          Choice ld Ok (after (cond b (Gives (record { which = r; supply = Picked n rs })) Unfit) k) (λ news. after (take_object (Chosen news) ty h) k') rest
      by_test true e =
          let x = and_both (r.ty == ty) (is_absent (h.get r).mode) e in
          let i = choose ((r.ty == ty) && is_absent (h.get r).mode) (record { which = r; supply = Picked n rs }) e rest (record { type_is = eqb-true r.ty ty x.0; absent = x.1; above = above }) in
          (r ∷ i.0, record { ends = i.1.ends })
      by_test false e = (rest, record { ends = tt })

  pub take_sim : (s : Supply) → IsFinite h → Above me s → Sim ld Ok (after (take_object s ty h) k) (λ news. after (take_object (Chosen news) ty h) k')
  take_sim s finite above = record { choice = taken_object s finite above }

-- A thread that is taken: among one more numbers than there are references in the support, one owns nothing.

module _ (own : Ref → ℕ → Bool) (unique : (o : Ref) (t u : ℕ) → own o t ≡ true → own o u ≡ true → t ≡ u) where
  left_out : ℕ → List Ref → List Ref
  left_out t [] = []
  left_out t (o ∷ os) = cond (own o t) (left_out t os) (o ∷ left_out t os)

  busy : List Ref → ℕ → Bool
  busy os t = some (λ o. own o t) os

  no_more : (t : ℕ) (os : List Ref) → length (left_out t os) ≤ length os
  unfolding left_out
  no_more t [] = omega arith
  no_more t (o ∷ os) =
      let i : length (left_out t os) ≤ length os = no_more t os in
      elim (own o t) as (λ b. length (cond b (left_out t os) (o ∷ left_out t os)) ≤ suc (length os)) [ true ↦ omega arith | false ↦ omega arith ]

  fewer : (t : ℕ) (os : List Ref) → busy os t ≡ true → length (left_out t os) < length os
  unfolding left_out busy
  fewer t [] e = absurd (both_ways false refl e)
  fewer t (o ∷ os) e = by_first (fewer t os) (own o t) refl
    where
      by_first : (busy os t ≡ true → length (left_out t os) < length os) → (b : Bool) → own o t ≡ b → length (cond b (left_out t os) (o ∷ left_out t os)) < suc (length os)
      by_first rec true d = let i : length (left_out t os) ≤ length os = no_more t os in omega arith
      by_first rec false d = let i : length (left_out t os) < length os = rec (ap (λ b. b || busy os t) (sym d) ∙ e) in omega arith

  still_busy : (t u : ℕ) (os : List Ref) → t ≢ u → busy os u ≡ true → busy (left_out t os) u ≡ true
  unfolding left_out busy
  still_busy t u [] d e = e
  still_busy t u (o ∷ os) d e = by_first (still_busy t u os d) (own o t) refl (or_cases (own o u) (busy os u) e)
    where
      by_first : (busy os u ≡ true → busy (left_out t os) u ≡ true) → (b : Bool) → own o t ≡ b → (own o u ≡ true) ⊎ (busy os u ≡ true) → busy (cond b (left_out t os) (o ∷ left_out t os)) u ≡ true
      by_first rec true a (inl x) = absurd (d (unique o t u a x))
      by_first rec true a (inr x) = rec x
      by_first rec false a (inl x) = ap (λ b. b || busy (left_out t os) u) x
      by_first rec false a (inr x) = or_right (own o u) (busy (left_out t os) u) (rec x)

  at_most : (k n : ℕ) (os : List Ref) → ((t : ℕ) → n ≤ t → t < n + k → busy os t ≡ true) → k ≤ length os
  at_most zero n os f = omega arith
  at_most (suc k) n os f =
      let b : busy os (n + k) ≡ true = f (n + k) (omega arith) (omega arith) in
      let i : k ≤ length (left_out (n + k) os) = at_most k n (left_out (n + k) os) (λ t low high. still_busy (n + k) t os (λ e. omega arith) (f t low (omega arith))) in
      let j : length (left_out (n + k) os) < length os = fewer (n + k) os b in
      omega arith

record Searched (h : Heap) (n tries : ℕ) : Type 0 where
  above : n ≤ idle_from tries h n
  found : (is_idle h (idle_from tries h n) ≡ true) ⊎ ((t : ℕ) → n ≤ t → t < n + tries → is_idle h t ≡ false)

searched : (h : Heap) (tries n : ℕ) → Searched h n tries
searched h zero n = record { above = omega arith; found = inr (λ t low high. absurd (omega arith)) }
searched h (suc tries) n = let x = by_first (searched h tries (n + 1)) (is_idle h n) refl in record { above = x.0; found = x.1 }
  where
    first_or : is_idle h n ≡ false → ((t : ℕ) → n + 1 ≤ t → t < n + 1 + tries → is_idle h t ≡ false) → (t : ℕ) → n ≤ t → t < n + suc tries → is_idle h t ≡ false
    first_or e f t low high = elim (cases_eq t n) [ inl s ↦ ap (is_idle h) s ∙ e | inr d ↦ f t (omega arith) (omega arith) ]

    by_first : Searched h (n + 1) tries → (b : Bool) → is_idle h n ≡ b →
        (n ≤ cond b n (idle_from tries h (n + 1))) × ((is_idle h (cond b n (idle_from tries h (n + 1))) ≡ true) ⊎ ((t : ℕ) → n ≤ t → t < n + suc tries → is_idle h t ≡ false))
    by_first rec true e = (omega arith, inl e)
    by_first rec false e = (let a : n + 1 ≤ idle_from tries h (n + 1) = rec.above in omega arith, elim rec.found [ inl x ↦ inl x | inr f ↦ inr (first_or e f) ])

-- the thread that the machine takes owns nothing
pub idle_found : (h : Heap) (n : ℕ) → (n ≤ idle_from (suc (length h.support)) h n) × (is_idle h (idle_from (suc (length h.support)) h n) ≡ true)
unfolding busy
idle_found h n =
    let s = searched h (suc (length h.support)) n in (
      s.above,
      elim s.found [
        | inl x ↦ x
        | inr f ↦
            let many : suc (length h.support) ≤ length h.support = at_most (λ o t. same_ref (h.get o).owner (thread t))
            (λ o t u a b. ap (λ (r : Ref). r.serial) (sym (same_ref_is (h.get o).owner (thread t) a) ∙ same_ref_is (h.get o).owner (thread u) b)) (suc (length h.support)) n h.support
            (λ t low high. not-false (some (λ o. same_ref (h.get o).owner (thread t)) h.support) (f t low high)) in
            absurd (omega arith)
      ],
    )

-- a thread that is taken
pub record TakenThread (me : Ref) (h : Heap) (t : Took) : Type 0 where
  pub which_is : t.which ≡ thread t.which.serial
  pub other : t.which.serial ≢ me.serial
  pub idle : is_idle h t.which.serial ≡ true
  pub above : Above me t.supply

module _ {B : Type 0} (ld : List Ref → B → B) (Ok : B → Type 0) (me : Ref) (h : Heap) (k k' : Took → Outcome B)
    (next : (t : Took) → TakenThread me h t → Sim ld Ok (k t) (λ news. k' (with_rest t news))) where
  choose_thread : (b : Bool) (t : Took) → b ≡ true → (rest : List Ref) → TakenThread me h t → Choice ld Ok (k t) (λ news. after (cond b (Gives (with_rest t news)) Unfit) k') rest
  choose_thread b t e rest taken =
      let i = (next t taken).choice rest in
      (i.0, record { ends = subst (λ b. Ends (Same ld Ok rest) (k t).end (after (cond b (Gives (with_rest t i.0)) Unfit) k').end) (sym e) i.1.ends })

  taken_idle : (n : ℕ) (s : Supply) → me.serial < n → Above me s → (rest : List Ref) →
      let r = thread (idle_from (suc (length h.support)) h n) in Choice ld Ok (k (record { which = r; supply = s }))
      (λ news. after (cond (is_thread r && (not (same_ref r me) && is_idle h r.serial)) (Gives (record { which = r; supply = Chosen news })) Unfit) k') rest
  taken_idle n s low above rest =
      let m = idle_from (suc (length h.support)) h n in
      let x = idle_found h n in
      let other : (m ≡ me.serial → ⊥) = λ e. (let a : n ≤ m = x.0 in omega arith) in
      let apart : same_ref (thread m) me ≡ false = false_from_ne_true (same_ref (thread m) me) (λ e. other (ap (λ (r : Ref). r.serial) (same_ref_is (thread m) me e))) in
      choose_thread _ (record { which = thread m; supply = s }) (both_and _ _ (eq-eqb 1 1 refl) (both_and _ _ (ap not apart) x.1)) rest
      (record { which_is = refl; other = other; idle = x.1; above = above })

  taken_thread : (s : Supply) → Above me s → (rest : List Ref) → Choice ld Ok (after (take_thread s me h) k) (λ news. after (take_thread (Chosen news) me h) k') rest
  taken_thread (Fresh n) above rest = let i = taken_idle n (Fresh n) above above rest in (thread (idle_from (suc (length h.support)) h n) ∷ i.0, record { ends = i.1.ends })
  taken_thread (Chosen rs) above rest = absurd above
  taken_thread (Picked n rs) above rest = let i = taken_idle n (Picked n rs) above above rest in (thread (idle_from (suc (length h.support)) h n) ∷ i.0, record { ends = i.1.ends })

  pub thread_sim : (s : Supply) → Above me s → Sim ld Ok (after (take_thread s me h) k) (λ news. after (take_thread (Chosen news) me h) k')
  thread_sim s above = record { choice = taken_thread s above }
