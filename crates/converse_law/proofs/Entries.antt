-- What an environment at the entry of a function gives: values of its parameters, and what holds unless it can't be known.
use Rattle.std.proofs.Common.{◌≡◌, ℕ, zero, suc, ◌+◌, ◌≤◌, inl, inr, Bool, true, false, if◌then◌else◌, List, [], ◌∷◌, ◌++◌, length, take, refl, ap, sym, ◌∙◌, subst, arith, true≢false, eqb-true}
use Rattle.object_types.specs.declared.references.Ref.{Ref}
use Rattle.object_types.specs.declared.values.Value.{Value}
use Rattle.method.specs.declared.program.DeclaredType.{DeclaredType}
use Rattle.method.specs.declared.program.VariableInfo.{VariableInfo}
use Rattle.method.specs.Tables.{local, in_type}
use Rattle.method.specs.Machine.{in_types, all_true}
use Rattle.terms.specs.Formula.{Formula}
use Rattle.term_meaning.specs.Meaning.{Language, truth}
use Rattle.term_meaning.proofs.Values.{stable_true}
use Rattle.conditions.specs.Symbolic.{Symbolic, term, ranges}
use Rattle.conditions.specs.Paths.{Gives}
use Rattle.conditions.specs.Code.{State, new_of}
use Rattle.conditions.specs.Statements.{new_values, parameter_ranges}
use Rattle.conditions.specs.Ways.{AllHold, IsValidAt, IsFalseAt}
use Rattle.condition_walks.proofs.Checks.{AllIs, facts_known}
use Rattle.condition_meaning.proofs.Environments.{Environment, Holds, Is, holds_is, is_holds, is_false}
use Rattle.condition_meaning.proofs.Known.{Known, known_holds}
use Rattle.condition_meaning.proofs.Walks.{Shown as ShownBy}
use Rattle.action_conditions.proofs.Places.{Stands, AllStand}
use Rattle.action_conditions.proofs.NewBacks.{new_back}
use Rattle.condition_walks.proofs.Kept.{gives_facts}
use Rattle.object_types.specs.References.{thread, is_thread, ref}
use Rattle.function_law.specs.Checks.{ValidAt}

pub all_apart : (E : Type 0) (H : E → Formula → Type 0) (e : E) (fs gs : List Formula) → AllHold E H e (fs ++ gs) → AllHold E H e fs × AllHold E H e gs
all_apart E H e [] gs a = (tt, a)
all_apart E H e (f ∷ fs) gs a = let z = all_apart E H e fs gs a.1 in ((a.0, z.0), z.1)

pub take_many : (n : ℕ) (vs : List VariableInfo) → n ≤ length vs → length (take n vs) ≡ n
take_many zero vs less = refl
take_many (suc n) [] less = absurd (omega (arith, less))
take_many (suc n) (v ∷ vs) less = ap suc (take_many n vs (omega (arith, less)))

pub more_types : (n : ℕ) (vs : List VariableInfo) (xs : List Value) → in_types (take n vs) xs ≡ true → in_types vs xs ≡ true
more_types zero [] xs t = t
more_types zero (v ∷ vs) [] t = refl
more_types zero (v ∷ vs) (x ∷ xs) t = absurd (true≢false (sym t))
more_types (suc n) [] xs t = t
more_types (suc n) (v ∷ vs) [] t = refl
more_types (suc n) (v ∷ vs) (x ∷ xs) t = by (in_type v.ty x) t (λ k. more_types n vs xs k)
  where
    by : (b : Bool) → (if b then in_types (take n vs) xs else false) ≡ true → (in_types (take n vs) xs ≡ true → in_types vs xs ≡ true) → (if b then in_types vs xs else false) ≡ true
    by true k more = more k
    by false k more = absurd (true≢false (sym k))

-- The parameters of an environment in which their ranges are known.
module _ (l : Language) (t : Ref) (e : Environment l t) where
  pub record Parameters (vs : List VariableInfo) (ws : List Symbolic) : Type 0 where
    pub values : List Value
    pub stand : AllStand l t e ws values
    pub many : length values ≡ length vs
    pub typed : in_types vs values ≡ true

  one_back : (ty : DeclaredType) (st : State) → AllHold (Environment l t) (Holds l t) e (ranges ty (term (new_of ty st).value)) → (v : Value) × (in_type ty v ≡ true) × Stands l t e (new_of ty st).value v
  one_back ty st k =
      let fs = ranges ty (term (new_of ty st).value) in
      let b = new_back l t e ty st (facts_known (Environment l t) (Holds l t) (Is l t) (holds_is l t) (is_false l t) e fs (Gives (new_of ty st)) k tt) in
      (b.value, b.in_it, subst (λ u. Stands l t e u.value b.value) (gives_facts fs (Gives (new_of ty st))) b.stands)

  pub values_back : (vs : List VariableInfo) (st : State) → AllHold (Environment l t) (Holds l t) e (parameter_ranges vs (new_values vs st).values) → Parameters vs (new_values vs st).values
  values_back [] st k = record { values = []; stand = tt; many = refl; typed = refl }
  values_back (v ∷ vs) st k =
      let w = new_of v.ty st in
      let two = all_apart (Environment l t) (Holds l t) e (ranges v.ty (term w.value)) (parameter_ranges vs (new_values vs w.state).values) k in
      let one = one_back v.ty st two.0 in
      let rest = values_back vs w.state two.1 in
      record { values = one.0 ∷ rest.values; stand = (one.2, rest.stand); many = ap suc rest.many; typed = ap (λ b. if b then in_types vs rest.values else false) one.1 ∙ rest.typed }

  pub all_are_true : (fs : List Formula) (bs : List Bool) → AllIs (Environment l t) (Holds l t) (Is l t) (holds_is l t) (is_false l t) e fs bs → AllHold (Environment l t) (Holds l t) e fs → all_true bs ≡ true
  all_are_true [] [] i h = refl
  all_are_true [] (b ∷ bs) i h = absurd i
  all_are_true (f ∷ fs) [] i h = absurd i
  all_are_true (f ∷ fs) (b ∷ bs) i h = ap (λ c. if c then all_true bs else false) (is_holds l t e f b i.0 h.0) ∙ all_are_true fs bs i.1 h.1

  -- variables behind the parameters are hidden
  module _ (size : ℕ) (Spotted : Environment l t → Type 0) (hid : ℕ → Bool) where
    hidden_shown : (b : ℕ) (ws : List Symbolic) (val : ℕ → Value) → ((j : ℕ) → b ≤ j → hid j ≡ true) → ShownBy l t size Spotted hid e b ws val
    hidden_shown b [] val hides = tt
    hidden_shown b (w ∷ ws) val hides = ((λ k. absurd (true≢false (sym (hides b (omega arith)) ∙ k))), hidden_shown (b + 1) ws val (λ j low. hides j (omega (arith, low))))

    pub entry_shown : (b : ℕ) (ws zs : List Symbolic) (ls ms : List Value) (val : ℕ → Value) → AllStand l t e ws ls → ((j : ℕ) → val (b + j) ≡ local (ls ++ ms) j) → ((j : ℕ) → b + length ls ≤ j → hid j ≡ true) → ShownBy l t size Spotted hid e b (ws ++ zs) val
    entry_shown b [] zs [] ms val s same hides = hidden_shown b zs val (λ j low. hides j (omega (arith, low)))
    entry_shown b [] zs (l ∷ ls) ms val s same hides = absurd s
    entry_shown b (w ∷ ws) zs [] ms val s same hides = absurd s
    entry_shown b (w ∷ ws) zs (l ∷ ls) ms val s same hides =
        let here : b ≡ b + 0 = omega arith in (
          (λ k. subst (λ (v : Value). Stands _ _ e w v) (sym (ap val here ∙ same 0)) s.0),
          entry_shown (b + 1) ws zs ls ms val s.1 (λ j. (let z : b + 1 + j ≡ b + suc j = omega arith in ap val z) ∙ same (suc j)) (λ j low. hides j (omega (arith, low))),
        )

  -- what can't fail to be known holds
  pub holds_unless : (f : Formula) → ¬ ¬ Known l t e f → Holds l t e f
  holds_unless f k = record { always = λ v m. stable_true (truth v) (λ fails. k (λ z. fails ((known_holds l t e f z).always v m))) }

pub valid_unless : (l : Language) (t : Ref) (label n : ℕ) (fs : List Formula) → ((e : Environment l t) → IsFalseAt (Environment l t) (Known l t) label n fs e → ⊥) → IsValidAt (Environment l t) (Holds l t) label n fs
valid_unless l t label n [] never = tt
valid_unless l t label n (f ∷ fs) never = ((λ here e. holds_unless l t e f (λ none. never e (inl (here, none)))), valid_unless l t label (suc n) fs (λ e y. never e (inr y)))

its_serial : (w : Ref) → is_thread w ≡ true → w ≡ thread w.serial
its_serial w t = ap (λ (n : ℕ). ref n w.serial) (eqb-true w.ty 1 t)

-- what is so of each thread's environments is so of all
pub all_threads : (l : Language) (label n : ℕ) (fs : List Formula) → ((k : ℕ) → IsValidAt (Environment l (thread k)) (Holds l (thread k)) label n fs) → ValidAt l label n fs
all_threads l label n [] each = tt
all_threads l label n (f ∷ fs) each = (
  (λ here e x is gives. ((each e.me.serial).0 here (record { env = e; is_env = is; me = its_serial e.me is.me })).always x gives),
  all_threads l label (suc n) fs (λ k. (each k).1),
)
