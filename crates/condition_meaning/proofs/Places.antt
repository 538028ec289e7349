-- The places of a scene: what stands at each, and the scene of constants.
use Rattle.std.proofs.Common.{◌≡◌, ℕ, zero, suc, ◌+◌, ◌<◌, ◌≤◌, ◌⊎◌, inl, inr, Bool, false, List, [], ◌∷◌, ◌++◌, map, length, get_or, refl, sym, ap, ◌∙◌, subst, arith}
use Rattle.std.proofs.lemmas.List.{get_or-append-add, get_or_append_left, get_or_past, get_or-map, length-map, length-append}
use Rattle.terms.specs.Formula.{Formula}
use Rattle.conditions.specs.Formulas.{nat, null, reference}
use Rattle.conditions.specs.Symbolic.{Symbolic, Truth, Number, Reference, term, test}
use Rattle.conditions.specs.Annotations.{Scene, symbolic_at, bound_ref, parts, constant_like, constants_like, references_like, formal_scene}
use Rattle.condition_meaning.proofs.Constants.{Speaks}

pub below_or : (i n : ℕ) → (i < n) ⊎ (n ≤ i)
below_or i zero = inr (omega arith)
below_or zero (suc n) = inl (omega arith)
below_or (suc i) (suc n) = elim (below_or i n) [ inl h ↦ inl (omega (arith, h)) | inr h ↦ inr (omega (arith, h)) ]

-- Reading a list of parts.

pub behind_five : {X : Type 0} (a b c d e : X) (rest : List X) (n i : ℕ) (z : X) → n ≡ 5 + i → get_or (a ∷ b ∷ c ∷ d ∷ e ∷ rest) n z ≡ get_or rest i z
behind_five a b c d e rest n i z h = ap (λ m. get_or (a ∷ b ∷ c ∷ d ∷ e ∷ rest) m z) h ∙ get_or-append-add (a ∷ b ∷ c ∷ d ∷ e ∷ []) rest i z

pub in_first : {X : Type 0} (xs ys zs : List X) (i : ℕ) (d : X) → i < length xs → get_or ((xs ++ ys) ++ zs) i d ≡ get_or xs i d
in_first xs ys zs i d h = get_or_append_left (xs ++ ys) zs d i (omega (arith, h, length-append xs ys)) ∙ get_or_append_left xs ys d i h

pub in_second : {X : Type 0} (xs ys zs : List X) (n i : ℕ) (d : X) → n ≡ length xs + i → i < length ys → get_or ((xs ++ ys) ++ zs) n d ≡ get_or ys i d
in_second xs ys zs n i d e h = get_or_append_left (xs ++ ys) zs d n (omega (arith, e, h, length-append xs ys)) ∙ ap (λ m. get_or (xs ++ ys) m d) e ∙ get_or-append-add xs ys i d

pub in_third : {X : Type 0} (xs ys zs : List X) (n i : ℕ) (d : X) → n ≡ length xs + length ys + i → get_or ((xs ++ ys) ++ zs) n d ≡ get_or zs i d
in_third xs ys zs n i d e = ap (λ m. get_or ((xs ++ ys) ++ zs) m d) (let z : n ≡ length (xs ++ ys) + i = omega (arith, e, length-append xs ys) in z) ∙ get_or-append-add (xs ++ ys) zs i d

abbrev pub part : Scene → ℕ → Formula
part x n = get_or (parts x) n null

module _ (x : Scene) where
  abbrev Locals : List Formula
  Locals = map term x.locals

  abbrev Entries : List Formula
  Entries = map term x.entry

  abbrev rest : List Formula
  rest = (Locals ++ Entries) ++ x.bound

  pub local_part : (i : ℕ) → i < length x.locals → part x (5 + i) ≡ term (symbolic_at x.locals i)
  local_part i h =
      behind_five x.after x.before x.me x.this (term x.result) rest (5 + i) i null refl ∙ in_first Locals Entries x.bound i null (omega (arith, h, length-map x.locals term)) ∙ get_or-map term x.locals i (Number (nat 0)) null h

  pub entry_part : (i : ℕ) → i < length x.entry → part x (5 + length x.locals + i) ≡ term (symbolic_at x.entry i)
  entry_part i h =
      behind_five x.after x.before x.me x.this (term x.result) rest (5 + length x.locals + i) (length x.locals + i) null (omega arith)
      ∙ in_second Locals Entries x.bound (length x.locals + i) i null (omega (arith, length-map x.locals term)) (omega (arith, h, length-map x.entry term)) ∙ get_or-map term x.entry i (Number (nat 0)) null h

  pub bound_part : (i : ℕ) → part x (5 + length x.locals + length x.entry + i) ≡ bound_ref x i
  bound_part i =
      behind_five x.after x.before x.me x.this (term x.result) rest (5 + length x.locals + length x.entry + i) (length x.locals + length x.entry + i) null (omega arith)
      ∙ in_third Locals Entries x.bound (length x.locals + length x.entry + i) i null (omega (arith, length-map x.locals term, length-map x.entry term))

  pub last_part : (n : ℕ) → length (parts x) ≤ n → part x n ≡ null
  last_part n h = get_or_past (parts x) n null h

-- A scene of constants.

pub like_at : (n : ℕ) (ws : List Symbolic) (i : ℕ) → i < length ws → symbolic_at (constants_like n ws) i ≡ constant_like (n + i) (symbolic_at ws i)
like_at n [] i h = absurd (omega (arith, h))
like_at n (w ∷ ws) zero h = ap (λ m. constant_like m w) (let z : n ≡ n + 0 = omega arith in z)
like_at n (w ∷ ws) (suc i) h = like_at (n + 1) ws i (omega (arith, h)) ∙ ap (λ m. constant_like m (symbolic_at ws i)) (let z : n + 1 + i ≡ n + suc i = omega arith in z)

pub like_past : (n : ℕ) (ws : List Symbolic) (i : ℕ) → length ws ≤ i → symbolic_at (constants_like n ws) i ≡ Number (nat 0)
like_past n [] zero h = refl
like_past n [] (suc i) h = refl
like_past n (w ∷ ws) zero h = absurd (omega (arith, h))
like_past n (w ∷ ws) (suc i) h = like_past (n + 1) ws i (omega (arith, h))

pub bound_like_at : (n : ℕ) (rs : List Formula) (i : ℕ) → i < length rs → get_or (references_like n rs) i null ≡ reference (n + i)
bound_like_at n [] i h = absurd (omega (arith, h))
bound_like_at n (r ∷ rs) zero h = ap reference (let z : n ≡ n + 0 = omega arith in z)
bound_like_at n (r ∷ rs) (suc i) h = bound_like_at (n + 1) rs i (omega (arith, h)) ∙ ap reference (let z : n + 1 + i ≡ n + suc i = omega arith in z)

pub bound_like_past : (n : ℕ) (rs : List Formula) (i : ℕ) → length rs ≤ i → get_or (references_like n rs) i null ≡ null
bound_like_past n [] zero h = refl
bound_like_past n [] (suc i) h = refl
bound_like_past n (r ∷ rs) zero h = absurd (omega (arith, h))
bound_like_past n (r ∷ rs) (suc i) h = bound_like_past (n + 1) rs i (omega (arith, h))

-- What the terms of a scene speak of.

abbrev pub SpeaksValue : (ℕ → Type 0) → ℕ → Symbolic → Type 0
SpeaksValue P m (Truth b) = Speaks P m b
SpeaksValue P m (Number x) = Speaks P m x
SpeaksValue P m (Reference r) = Speaks P m r

pub term_speaks : (P : ℕ → Type 0) (m : ℕ) (w : Symbolic) → SpeaksValue P m w → Speaks P m (term w)
term_speaks P m (Truth b) a = (a, (tt, (tt, tt)))
term_speaks P m (Number x) a = a
term_speaks P m (Reference r) a = a

pub test_speaks : (P : ℕ → Type 0) (m : ℕ) (w : Symbolic) → SpeaksValue P m w → Speaks P m (test w)
test_speaks P m (Truth b) a = a
test_speaks P m (Number x) a = ((a, (tt, tt)), tt)
test_speaks P m (Reference r) a = ((a, (tt, tt)), tt)

-- the hidden variables apart
pub record SceneSpeaks (P : ℕ → Type 0) (m : ℕ) (hidden : ℕ → Bool) (x : Scene) : Type 0 where
  pub after : Speaks P m x.after
  pub before : Speaks P m x.before
  pub me : Speaks P m x.me
  pub this : Speaks P m x.this
  pub result : SpeaksValue P m x.result
  pub locals : (i : ℕ) → hidden i ≡ false → SpeaksValue P m (symbolic_at x.locals i)
  pub entry : (i : ℕ) → SpeaksValue P m (symbolic_at x.entry i)
  pub bound : (i : ℕ) → Speaks P m (bound_ref x i)
  pub subject : Speaks P m x.subject

-- each place but those of hidden variables passes, and the one behind all
pub record EachPlace (P : ℕ → Type 0) (hidden : ℕ → Bool) (x : Scene) : Type 0 where
  pub after : P 0
  pub before : P 1
  pub me : P 2
  pub this : P 3
  pub result : P 4
  pub locals : (i : ℕ) → i < length x.locals → hidden i ≡ false → P (5 + i)
  pub entry : (i : ℕ) → i < length x.entry → P (5 + length x.locals + i)
  pub bound : (i : ℕ) → i < length x.bound → P (5 + length x.locals + length x.entry + i)
  pub last : P (length (parts x))

pub constant_speaks : (P : ℕ → Type 0) (m n : ℕ) (w : Symbolic) → P n → SpeaksValue P m (constant_like n w)
constant_speaks P m n (Truth b) a = (a, refl)
constant_speaks P m n (Number x) a = (a, refl)
constant_speaks P m n (Reference r) a = (a, refl)

constants_speak : (P : ℕ → Type 0) (m n : ℕ) (ws : List Symbolic) (i : ℕ) → (i < length ws → P (n + i)) → SpeaksValue P m (symbolic_at (constants_like n ws) i)
constants_speak P m n ws i a =
    elim (below_or i (length ws)) [
      | inl h ↦ subst (λ w. SpeaksValue P m w) (sym (like_at n ws i h)) (constant_speaks P m (n + i) (symbolic_at ws i) (a h))
      | inr h ↦ subst (λ w. SpeaksValue P m w) (sym (like_past n ws i h)) tt
    ]

references_speak : (P : ℕ → Type 0) (m n : ℕ) (rs : List Formula) (i : ℕ) → (i < length rs → P (n + i)) → Speaks P m (get_or (references_like n rs) i null)
references_speak P m n rs i a =
    elim (below_or i (length rs)) [
      | inl h ↦ subst (λ r. Speaks P m r) (sym (bound_like_at n rs i h)) (a h, refl)
      | inr h ↦ subst (λ r. Speaks P m r) (sym (bound_like_past n rs i h)) tt
    ]

-- the formal scene speaks of places
pub formal_speaks : (P : ℕ → Type 0) (m : ℕ) (hidden : ℕ → Bool) (x : Scene) → EachPlace P hidden x → SceneSpeaks P m hidden (formal_scene x)
formal_speaks P m hidden x a = record {
  after = (a.after, refl);
  before = (a.before, refl);
  me = (a.me, refl);
  this = (a.this, refl);
  result = constant_speaks P m 4 x.result a.result;
  locals = λ i v. constants_speak P m 5 x.locals i (λ h. a.locals i h v);
  entry = λ i. constants_speak P m (5 + length x.locals) x.entry i (λ h. a.entry i h);
  bound = λ i. references_speak P m (5 + length x.locals + length x.entry) x.bound i (λ h. a.bound i h);
  subject = tt;
}

-- what stands at the places of a scene speaks as the scene does
pub places_speak : (P : ℕ → Type 0) (m : ℕ) (hidden : ℕ → Bool) (x : Scene) → SceneSpeaks P m hidden x → EachPlace (λ n. Speaks P m (part x n)) hidden x
places_speak P m hidden x a = record {
  after = a.after;
  before = a.before;
  me = a.me;
  this = a.this;
  result = term_speaks P m x.result a.result;
  locals = λ i h v. subst (λ f. Speaks P m f) (sym (local_part x i h)) (term_speaks P m (symbolic_at x.locals i) (a.locals i v));
  entry = λ i h. subst (λ f. Speaks P m f) (sym (entry_part x i h)) (term_speaks P m (symbolic_at x.entry i) (a.entry i));
  bound = λ i h. subst (λ f. Speaks P m f) (sym (bound_part x i)) (a.bound i);
  last = subst (λ f. Speaks P m f) (sym (last_part x (length (parts x)) (omega arith))) tt;
}
