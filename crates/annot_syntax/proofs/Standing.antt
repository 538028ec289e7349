-- From what is read at the front of tokens to what stands there, for any phrases of the language.
use Rattle.std.proofs.Common.{◌≡◌, inl, inr, ℕ, ◌≤◌, false, List, [], ◌∷◌, ◌++◌, Ok, Err, refl, ap, sym, ◌∙◌, subst, append_assoc}
use Rattle.std.proofs.lemmas.List.{append-nil, append_cancel_right}
use Rattle.ebnf.specs.Derives.{Phrases, next}
use Rattle.ebnf.specs.Sets.{has}
use Rattle.ebnf.specs.Reading.{Fault, Unexpected, TooDeep, Out}
use Rattle.ebnf.specs.Complete.{ok}
use Rattle.ebnf.specs.Moves.{Moves, HasNoEnd}
use Rattle.ebnf.specs.Fronts.{Viable}
use Rattle.ebnf.specs.Refutes.{Refuted, ErrAnd, same_rest}
use Rattle.ebnf.specs.Sound.{Fits}
use Rattle.ebnf.specs.Stuck.{Stuck}
use Rattle.ebnf.specs.Tools.{OkAnd, eq_false}
use Rattle.ebnf.specs.Verdict.{HasEnd}
use Rattle.c_syntax.specs.Lexing.{Lexeme}
use Rattle.c_syntax.specs.Language.{language}
use Rattle.c_syntax.specs.Readable.{readable}
use Rattle.annot_syntax.specs.Standing.{IsText, Begins, BeginsLow, Stands, IsStop}

end_in : (body : List Lexeme) (end : Lexeme) → HasNoEnd language (body ++ end ∷ []) → language.class end ≡ 0 → ⊥
end_in [] end real z = real.0 z
end_in (b ∷ body) end real z = end_in body end real.1 z

-- behind a front without the end stands a token
pub rest_some : (ts text rest : List Lexeme) → HasEnd language ts → ts ≡ text ++ rest → HasNoEnd language text → (t : Lexeme) × (after : List Lexeme) × (rest ≡ t ∷ after)
rest_some ts text [] e split real = absurd (end_in e.body e.end (subst (λ (w : List Lexeme). HasNoEnd language w) (sym (append-nil text) ∙ sym split ∙ e.split) real) e.ends)
rest_some ts text (t ∷ rest) e split real = (t, rest, refl)

head_is : (t u : Lexeme) (ts us : List Lexeme) → t ∷ ts ≡ u ∷ us → t ≡ u
head_is t u ts us e = cc

-- two phrases of one front are one
abbrev pub IsOne : {A : Type 0} → Phrases language A → Type 0
IsOne {A} P = (ts : List Lexeme) (a b : A) (h k : ℕ) (rest late : List Lexeme) → P ts a h rest → P ts b k late → ok language a h rest ≡ ok language b k late

module _ {A : Type 0} (P : Phrases language A) (goes : List ℕ) (ended : has goes 0 ≡ false) where
  free_end : (end : Lexeme) → language.class end ≡ 0 → has goes (next language (end ∷ [])) ≡ false
  free_end end z = subst (λ c. has goes c ≡ false) (sym z) ended

  -- a front that goes on to a phrase goes on to a text
  pub begins_low : (room : ℕ) (front : List Lexeme) (end : Lexeme) → language.class end ≡ 0 → Viable language P goes room front → BeginsLow P room front
  begins_low room front end z v = record { late = v.late ++ end ∷ []; tree = v.value; high = v.high; low = v.fits; is = record { end = end; ends = z; is = v.is (end ∷ []) (free_end end z) } }

  pub begins : (room : ℕ) (front : List Lexeme) (end : Lexeme) → language.class end ≡ 0 → Viable language P goes room front → Begins P front
  begins room front end z v = let b = begins_low room front end z v in record { late = b.late; tree = b.tree; high = b.high; is = b.is }

  -- a text that goes on with this token
  going_on : (front late : List Lexeme) (t : Lexeme) (a : A) (h : ℕ) → (x : IsText P ((front ++ t ∷ []) ++ late) a h) → P (front ++ (t ∷ late)) a h (x.end ∷ [])
  going_on front late t a h x = subst (λ (w : List Lexeme). P w a h (x.end ∷ [])) (append_assoc front (t ∷ []) late) x.is

  -- what is read stands there
  pub stands : IsOne P → (room : ℕ) (ts : List Lexeme) (a : A) (h : ℕ) (rest : List Lexeme) → P ts a h rest → h ≤ room → Moves language P goes ts a h rest → Stands P room ts a rest
  stands one room ts a h rest d le m = record {
    high = h;
    low = le;
    is = d;
    longest = λ front token after split place real b.
        let same : m.text ≡ front = append_cancel_right m.text front rest (sym m.split ∙ split) in
        let e = m.is (token ∷ b.late) (inl (sym (ap (next language) place))) in
        let w = going_on front b.late token b.tree b.high b.is in
        let o = one (front ++ (token ∷ b.late)) a b.tree h b.high (token ∷ b.late) (b.is.end ∷ []) (subst (λ (us : List Lexeme). P (us ++ (token ∷ b.late)) a h (token ∷ b.late)) same e) w in
        let r : token ∷ b.late ≡ b.is.end ∷ [] = same_rest language readable.good a b.tree h b.high (token ∷ b.late) (b.is.end ∷ []) o in
        eq_false (language.class token) 0 real (ap (next language) r ∙ b.is.ends);
  }

  -- a fault that is met is the first, and nothing stands there
  pub stops : (room : ℕ) (ts : List Lexeme) (kind : Fault) (rest : List Lexeme) → HasEnd language ts → Stuck language P goes room ts kind rest → Refuted language P room ts kind rest → (front : List Lexeme) × (token : Lexeme) × (after : List Lexeme) × (ts ≡ front ++ rest) × (rest ≡ token ∷ after) × IsStop P room ts kind front token
  stops room ts kind rest e x y = (
    x.text,
    r.0,
    r.1,
    x.split,
    r.2,
    record {
      after = r.1;
      split = x.split ∙ ap (λ us. x.text ++ us) r.2;
      before = inr (begins_low room x.text e.end e.ends x.before);
      here = λ z. nothing z.late z.tree z.high z.is (λ k. z.low);
      unexpected = λ k z. nothing z.late z.tree z.high z.is (λ q. other (sym k ∙ q));
      too_deep = λ k. let d = x.deep k in begins d.3.0 (x.text ++ r.0 ∷ []) e.end e.ends (subst (λ (u : Lexeme). Viable language P goes d.3.0 (x.text ++ u ∷ [])) (head_is d.0 r.0 d.1 r.1 (sym d.2 ∙ r.2)) d.3.1);
      none = λ a h late d low. y.none rest refl a h late low (subst (λ (us : List Lexeme). P us a h late) y.split d);
    },
  )
    where
      other : {X : Type 0} → Unexpected ≡ TooDeep → X
      other k = absurd cc

      r : (t : Lexeme) × (after : List Lexeme) × (rest ≡ t ∷ after)
      r = rest_some ts x.text rest e x.split x.ends

      fronts : y.text ≡ x.text
      fronts = append_cancel_right y.text x.text rest (sym y.split ∙ x.split)

      nothing : (late : List Lexeme) (b : A) (k : ℕ) → IsText P ((x.text ++ r.0 ∷ []) ++ late) b k → (kind ≡ TooDeep → k ≤ room) → ⊥
      nothing late b k z small =
          y.none (r.0 ∷ late) (sym (ap (next language) r.2)) b k (z.end ∷ []) small (subst (λ (w : List Lexeme). P (w ++ (r.0 ∷ late)) b k (z.end ∷ [])) (sym fronts) (going_on x.text late r.0 b k z))

-- what is read stands there, or is the first fault
abbrev pub Told : {A : Type 0} → Phrases language A → ℕ → List Lexeme → Out language A → Type 0
Told P room ts (Ok p) = Stands P room ts p.0 p.2 × P ts p.0 p.1 p.2 × (p.1 ≤ room)
Told P room ts (Err e) = (front : List Lexeme) × (token : Lexeme) × (after : List Lexeme) × (ts ≡ front ++ e.1) × (e.1 ≡ token ∷ after) × IsStop P room ts e.0 front token

pub told : {A : Type 0} (P : Phrases language A) (goes : List ℕ) → has goes 0 ≡ false → IsOne P → ((ts : List Lexeme) (a : A) (h : ℕ) (rest : List Lexeme) → P ts a h rest → Moves language P goes ts a h rest)
    → (room : ℕ) (ts : List Lexeme) → HasEnd language ts → (out : Out language A) → OkAnd language (Fits language P room ts) out → ErrAnd language (Stuck language P goes room ts) out → ErrAnd language (Refuted language P room ts) out → Told P room ts out
told P goes ended one moves room ts e (Ok p) d x y = (stands P goes ended one room ts p.0 p.1 p.2 d.0 d.1 (moves ts p.0 p.1 p.2 d.0), d.0, d.1)
told P goes ended one moves room ts e (Err f) d x y = stops P goes ended room ts f.0 f.1 e x y
