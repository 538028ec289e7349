-- Where outcomes may fail: at the numbers, with the kinds and on the lines of a table.
use Rattle.std.proofs.Common.{◌≡◌, ℕ, zero, suc, ◌+◌, ◌≤◌, Bool, true, false, cond, refl, ap, ◌∙◌, subst, List, [], ◌∷◌, ◌++◌, length, replicate, Option, Some, slice_get, length-append, arith}
use Rattle.method.specs.declared.program.CheckKind.{CheckKind}
use Rattle.method.specs.Overflow.{Overflow}
use Rattle.method.specs.Expressions.{End, Misfit, Failed, Gave, Outcome, Unfit, Gives, after, goes_on, Spot, Tested, check, check_each, check_spec, check_specs}
use Rattle.method.specs.Actions.{fitting}
use Rattle.method.specs.Labels.{Label, on_line}
use Rattle.machine_laws.proofs.Outcomes.{OnEnd, OnGave}
use Rattle.safety_law.specs.LabelFacts.{is_checked}

-- a table: which kinds on which lines a number may stand for
abbrev pub Table : Type 1
Table = ℕ → CheckKind → ℕ → Type 0

abbrev pub OnFailed : {A : Type 0} → End A → Table → Type 0
OnFailed Misfit Q = Unit {0}
OnFailed (Failed n kind line) Q = Q n kind line
OnFailed (Gave a) Q = Unit {0}

module _ (T : Table) where
  -- the table has these kinds, on this line, from number n on
  abbrev pub KindsAt : ℕ → List CheckKind → ℕ → Type 0
  KindsAt line [] n = Unit {0}
  KindsAt line (k ∷ ks) n = T n k line × KindsAt line ks (n + 1)

  -- the same of labels
  abbrev pub LabelsAt : List Label → ℕ → Type 0
  LabelsAt [] n = Unit {0}
  LabelsAt (l ∷ ls) n = T n l.kind l.line × LabelsAt ls (n + 1)

  pub kinds_left : (line : ℕ) (xs ys : List CheckKind) (n : ℕ) → KindsAt line (xs ++ ys) n → KindsAt line xs n
  kinds_left line [] ys n s = tt
  kinds_left line (x ∷ xs) ys n s = (s.0, kinds_left line xs ys (n + 1) s.1)

  kinds_behind : (line : ℕ) (xs ys : List CheckKind) (n : ℕ) → KindsAt line (xs ++ ys) n → KindsAt line ys (n + length xs)
  kinds_behind line [] ys n s = subst (KindsAt line ys) (omega arith) s
  kinds_behind line (x ∷ xs) ys n s = subst (KindsAt line ys) (omega arith) (kinds_behind line xs ys (n + 1) s.1)

  pub kinds_right : (line : ℕ) (xs ys : List CheckKind) (n c : ℕ) → length xs ≡ c → KindsAt line (xs ++ ys) n → KindsAt line ys (n + c)
  kinds_right line xs ys n c e s = subst (λ m. KindsAt line ys (n + m)) e (kinds_behind line xs ys n s)

  -- three lists, one behind the other
  pub kinds_three : (line : ℕ) (xs ys zs : List CheckKind) (n a b : ℕ) → length xs ≡ a → length ys ≡ b → KindsAt line (xs ++ ys ++ zs) n →
      KindsAt line xs n × KindsAt line ys (n + a) × KindsAt line zs (n + a + b)
  kinds_three line xs ys zs n a b e f s =
      let front = kinds_left line (xs ++ ys) zs n s in
      let size : length (xs ++ ys) ≡ a + b = length-append xs ys ∙ (ap (λ k. k + length ys) e ∙ ap (λ k. a + k) f) in
      (kinds_left line xs ys n front, kinds_right line xs ys n a e front, subst (KindsAt line zs) (omega arith) (kinds_right line (xs ++ ys) zs n (a + b) size s))

  pub kinds_from : (line : ℕ) (ks : List CheckKind) (n m : ℕ) → n ≡ m → KindsAt line ks n → KindsAt line ks m
  kinds_from line ks n m e s = subst (KindsAt line ks) e s

  pub labels_left : (xs ys : List Label) (n : ℕ) → LabelsAt (xs ++ ys) n → LabelsAt xs n
  labels_left [] ys n s = tt
  labels_left (x ∷ xs) ys n s = (s.0, labels_left xs ys (n + 1) s.1)

  labels_behind : (xs ys : List Label) (n : ℕ) → LabelsAt (xs ++ ys) n → LabelsAt ys (n + length xs)
  labels_behind [] ys n s = subst (LabelsAt ys) (omega arith) s
  labels_behind (x ∷ xs) ys n s = subst (LabelsAt ys) (omega arith) (labels_behind xs ys (n + 1) s.1)

  pub labels_right : (xs ys : List Label) (n c : ℕ) → length xs ≡ c → LabelsAt (xs ++ ys) n → LabelsAt ys (n + c)
  labels_right xs ys n c e s = subst (λ m. LabelsAt ys (n + m)) e (labels_behind xs ys n s)

  pub labels_three : (xs ys zs : List Label) (n a b : ℕ) → length xs ≡ a → length ys ≡ b → LabelsAt (xs ++ ys ++ zs) n → LabelsAt xs n × LabelsAt ys (n + a) × LabelsAt zs (n + a + b)
  labels_three xs ys zs n a b e f s =
      let front = labels_left (xs ++ ys) zs n s in
      let size : length (xs ++ ys) ≡ a + b = length-append xs ys ∙ (ap (λ k. k + length ys) e ∙ ap (λ k. a + k) f) in
      (labels_left xs ys n front, labels_right xs ys n a e front, subst (LabelsAt zs) (omega arith) (labels_right (xs ++ ys) zs n (a + b) size s))

  pub labels_from : (ls : List Label) (n m : ℕ) → n ≡ m → LabelsAt ls n → LabelsAt ls m
  labels_from ls n m e s = subst (LabelsAt ls) e s

  pub on_one_line : (line : ℕ) (ks : List CheckKind) (n : ℕ) → LabelsAt (on_line line ks) n → KindsAt line ks n
  on_one_line line [] n s = tt
  on_one_line line (k ∷ ks) n s = (s.0, on_one_line line ks (n + 1) s.1)

  -- as many of one kind
  pub kinds_same : (line : ℕ) (kind : CheckKind) (many : ℕ) (n i : ℕ) → i + 1 ≤ many → KindsAt line (replicate many kind) n → T (n + i) kind line
  kinds_same line kind zero n i l s = absurd (omega (arith, l))
  kinds_same line kind (suc many) n zero l s = subst (λ m. T m kind line) (omega arith) s.0
  kinds_same line kind (suc many) n (suc i) l s = subst (λ m. T m kind line) (omega arith) (kinds_same line kind many (n + 1) i (omega (arith, l)) s.1)

  -- what the list has is what the table says
  pub labels_by : (ls : List Label) (n : ℕ) → ((i : ℕ) (l : Label) → slice_get ls i ≡ Some l → T (n + i) l.kind l.line) → LabelsAt ls n
  labels_by [] n f = tt
  labels_by (l ∷ ls) n f = (subst (λ m. T m l.kind l.line) (omega arith) (f 0 l refl), labels_by ls (n + 1) (λ i k e. subst (λ m. T m k.kind k.line) (omega arith) (f (suc i) k e)))

  -- it fails only where the table says so, and with no kind that isn't checked
  pub record Within {A : Type 0} (o : Outcome A) : Type 0 where
    pub fails : OnFailed o.end (λ n kind line. T n kind line × (is_checked kind ≡ true))

  pub gives_within : {A : Type 0} (a : A) → Within (Gives a)
  gives_within a = record { fails = tt }

  pub unfit_within : {A : Type 0} → Within (Unfit {A = A})
  unfit_within = record { fails = tt }

  goes_on_within : {A B : Type 0} (w : Option Overflow) (e : End A) (f : A → Outcome B) (P : A → Type 0) → OnFailed e (λ n kind line. T n kind line × (is_checked kind ≡ true)) → OnEnd e P →
      ((a : A) → P a → Within (f a)) → Within (goes_on w e f)
  goes_on_within w Misfit f P x y z = record { fails = tt }
  goes_on_within w (Failed n kind line) f P x y z = record { fails = x }
  goes_on_within w (Gave a) f P x y z = record { fails = (z a y).fails }

  pub then_within : {A B : Type 0} (o : Outcome A) (f : A → Outcome B) (P : A → Type 0) → Within o → OnGave o P → ((a : A) → P a → Within (f a)) → Within (after o f)
  then_within o f P x y z = goes_on_within o.overflow o.end f P x.fails y z

  any_end : {A : Type 0} (e : End A) → OnEnd e (λ a. Unit {0})
  any_end Misfit = tt
  any_end (Failed n kind line) = tt
  any_end (Gave a) = tt

  pub after_within : {A B : Type 0} (o : Outcome A) (f : A → Outcome B) → Within o → ((a : A) → Within (f a)) → Within (after o f)
  after_within o f x z = then_within o f (λ a. Unit {0}) x (any_end o.end) (λ a u. z a)

  pub if_within : {A : Type 0} (b : Bool) (o u : Outcome A) → Within o → Within u → Within (cond b o u)
  if_within true o u x y = x
  if_within false o u x y = y

  pub either_within : {A : Type 0} (b : Bool) (o u : Outcome A) → (b ≡ true → Within o) → (b ≡ false → Within u) → Within (cond b o u)
  either_within true o u x y = x refl
  either_within false o u x y = y refl

  pub fitting_within : {A : Type 0} (b : Bool) (o : Outcome A) → Within o → Within (fitting b o)
  fitting_within true o x = x
  fitting_within false o x = record { fails = tt }

  pub check_within : {A : Type 0} (at_ : Spot) (b : Bool) (n : ℕ) (kind : CheckKind) (o : Outcome A) → is_checked kind ≡ true → T n kind at_.line → Within o → Within (check at_ b n kind o)
  check_within at_ true n kind o c t x = x
  check_within at_ false n kind o c t x = record { fails = (t, c) }

  pub spec_within : {A : Type 0} (at_ : Spot) (t : Tested) (n : ℕ) (kind : CheckKind) (o : Outcome A) → is_checked kind ≡ true → T n kind at_.line → Within o → Within (check_spec at_ t n kind o)
  spec_within at_ t n kind o c s x = record { fails = (check_within at_ t.holds n kind o c s x).fails }

  -- no more tests than there are checks of the kind
  pub each_within : {A : Type 0} (at_ : Spot) (bs : List Bool) (many n : ℕ) (kind : CheckKind) (o : Outcome A) → is_checked kind ≡ true → length bs ≤ many →
      KindsAt at_.line (replicate many kind) n → Within o → Within (check_each at_ bs n kind o)
  each_within at_ [] many n kind o c l s x = x
  each_within at_ (b ∷ bs) zero n kind o c l s x = absurd (omega (arith, l))
  each_within at_ (b ∷ bs) (suc many) n kind o c l s x = check_within at_ b n kind (check_each at_ bs (n + 1) kind o) c s.0 (each_within at_ bs many (n + 1) kind o c (omega (arith, l)) s.1 x)

  pub specs_within : {A : Type 0} (at_ : Spot) (ts : List Tested) (many n : ℕ) (kind : CheckKind) (o : Outcome A) → is_checked kind ≡ true → length ts ≤ many →
      KindsAt at_.line (replicate many kind) n → Within o → Within (check_specs at_ ts n kind o)
  specs_within at_ [] many n kind o c l s x = x
  specs_within at_ (t ∷ ts) zero n kind o c l s x = absurd (omega (arith, l))
  specs_within at_ (t ∷ ts) (suc many) n kind o c l s x = spec_within at_ t n kind (check_specs at_ ts (n + 1) kind o) c s.0 (specs_within at_ ts many (n + 1) kind o c (omega (arith, l)) s.1 x)
