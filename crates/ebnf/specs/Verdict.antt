-- What a whole text is: a tree, or the first token with which no text of a tree that is low enough goes on. From the theory of parsing (the viable prefix property of LL(1) parsers).
use Rattle.std.proofs.Common.{◌≡◌, ◌⊎◌, inl, inr, ⊎_elim, ℕ, zero, suc, ◌+◌, ◌<◌, ◌≤◌, max, Bool, true, false, cond, List, [], ◌∷◌, ◌++◌, length, Result, Ok, Err, refl, ap, sym, ◌∙◌, subst, arith, append_assoc}
use Rattle.std.specs.Prelude.{◌==◌, if◌then◌else◌}
use Rattle.std.proofs.lemmas.List.{append-nil, append_cancel_left, append_cancel_right}
use Rattle.ebnf.specs.Rules.{Grammar}
use Rattle.ebnf.specs.Sets.{has}
use Rattle.ebnf.specs.Derives.{next, IsPhrase}
use Rattle.ebnf.specs.Reading.{Fault, Unexpected, TooDeep, Out, on, reads}
use Rattle.ebnf.specs.Tools.{OkAnd, eq_true, true_eq, eq_false, or_else}
use Rattle.ebnf.specs.Sound.{Fits}
use Rattle.ebnf.specs.Moves.{Moves, HasNoEnd, Stays}
use Rattle.ebnf.specs.Complete.{ok}
use Rattle.ebnf.specs.Refutes.{ErrAnd, Refuted, phrase_read, read_phrase, phrase_moves, reads_refute, same_rest, same_value, same_height}
use Rattle.ebnf.specs.Fronts.{IsReadable, Viable, Free}
use Rattle.ebnf.specs.Stuck.{Stuck, reads_stuck}

module _ (g : Grammar) where
  -- the text, up to its end, is this tree, which is h high
  pub record IsText (n : g.N) (ts : List g.T) (a : g.V n) (h : ℕ) : Type 0 where
    pub end : g.T
    pub ends : g.class end ≡ 0
    pub is : IsPhrase g n ts a h (end ∷ [])

  -- some text that begins with these tokens is a tree
  pub record Begins (n : g.N) (front : List g.T) : Type 0 where
    pub late : List g.T
    pub tree : g.V n
    pub high : ℕ
    pub is : IsText n (front ++ late) tree high

  -- one that is no higher than room
  pub record BeginsLow (n : g.N) (room : ℕ) (front : List g.T) : Type 0 where
    pub late : List g.T
    pub tree : g.V n
    pub high : ℕ
    pub low : high ≤ room
    pub is : IsText n (front ++ late) tree high

  -- The next token is the first with which no text of a low tree goes on; it is Unexpected where no text goes on so, and TooDeep where only texts of higher trees do.
  pub record IsFirstFault (n : g.N) (room : ℕ) (ts : List g.T) (kind : Fault) (rest : List g.T) : Type 0 where
    pub front : List g.T
    pub token : g.T
    pub after : List g.T
    pub split : ts ≡ front ++ rest
    pub place : rest ≡ token ∷ after
    pub before : BeginsLow n room front
    pub here : BeginsLow n room (front ++ token ∷ []) → ⊥
    pub unexpected : kind ≡ Unexpected → Begins n (front ++ token ∷ []) → ⊥
    pub too_deep : kind ≡ TooDeep → Begins n (front ++ token ∷ [])

  -- the text has one end, its last token
  pub record HasEnd (ts : List g.T) : Type 0 where
    pub body : List g.T
    pub end : g.T
    pub split : ts ≡ body ++ end ∷ []
    pub real : HasNoEnd g body
    pub ends : g.class end ≡ 0

  -- the whole text read
  abbrev pub at_end : {A : Type 0} → Out g A → Out g A
  at_end (Ok p) = if next g p.2 == 0 then Ok p else Err (Unexpected, p.2)
  at_end (Err e) = Err e

  abbrev pub whole : ℕ → (n : g.N) → List g.T → Out g (g.V n)
  whole room n ts = at_end (reads g room n ts)

  abbrev pub IsVerdict : (n : g.N) → ℕ → List g.T → Out g (g.V n) → Type 0
  IsVerdict n room ts (Ok p) = IsText n ts p.0 p.1 × (p.1 ≤ room)
  IsVerdict n room ts (Err e) = IsFirstFault n room ts e.0 e.1

  -- ---- the verdict holds

  regroup : (front late : List g.T) (t : g.T) → (front ++ t ∷ []) ++ late ≡ front ++ (t ∷ late)
  regroup front late t = append_assoc front (t ∷ []) late

  end_in : (body : List g.T) (end : g.T) → HasNoEnd g (body ++ end ∷ []) → g.class end ≡ 0 → ⊥
  end_in [] end real z = real.0 z
  end_in (b ∷ body) end real z = end_in body end real.1 z

  -- a rest of a text with one end, behind a front without, has a token
  rest_of_text : (ts text rest : List g.T) → HasEnd ts → ts ≡ text ++ rest → HasNoEnd g text → (t : g.T) × (after : List g.T) × (rest ≡ t ∷ after)
  rest_of_text ts text [] e split real = absurd (end_in e.body e.end (subst (λ (w : List g.T). HasNoEnd g w) (sym (append-nil text) ∙ sym split ∙ e.split) real) e.ends)
  rest_of_text ts text (t ∷ rest) e split real = (t, rest, refl)

  head_is : (t u : g.T) (ts us : List g.T) → t ∷ ts ≡ u ∷ us → t ≡ u
  head_is t u ts us e = cc

  tail_is : (t u : g.T) (ts us : List g.T) → t ∷ ts ≡ u ∷ us → ts ≡ us
  tail_is t u ts us e = cc

  not_nil : (text : List g.T) (t : g.T) (after : List g.T) → text ++ t ∷ after ≡ [] → ⊥
  not_nil [] t after e = cc
  not_nil (x ∷ text) t after e = cc

  -- the end is the last token
  end_last : (text body : List g.T) (t end : g.T) (after : List g.T) → text ++ t ∷ after ≡ body ++ end ∷ [] → HasNoEnd g body → g.class t ≡ 0 → after ≡ []
  end_last [] [] t end after e real z = tail_is t end after [] e
  end_last [] (b ∷ body) t end after e real z = absurd (real.0 (ap g.class (sym (head_is t b after (body ++ end ∷ []) e)) ∙ z))
  end_last (x ∷ text) [] t end after e real z = absurd (not_nil text t after (tail_is x end (text ++ t ∷ after) [] e))
  end_last (x ∷ text) (b ∷ body) t end after e real z = end_last text body t end after (tail_is x b (text ++ t ∷ after) (body ++ end ∷ []) e) real.1 z

  -- what begins with more begins with less
  low_front : (n : g.N) (room : ℕ) (front late : List g.T) → BeginsLow n room (front ++ late) → BeginsLow n room front
  low_front n room front late b = record { late = late ++ b.late; tree = b.tree; high = b.high; low = b.low; is = let x = b.is in record { end = x.end; ends = x.ends; is = subst (λ (w : List g.T). IsPhrase g n w b.tree b.high (x.end ∷ [])) (append_assoc front late b.late) x.is } }

  -- of two fronts of a text one goes on to the other
  data Fronts (a b : List g.T) (t u : g.T) : Type 0 where
    same : a ≡ b → Fronts a b t u
    shorter : (late : List g.T) → b ≡ (a ++ t ∷ []) ++ late → Fronts a b t u
    longer : (late : List g.T) → a ≡ (b ++ u ∷ []) ++ late → Fronts a b t u

  fronts : (a b : List g.T) (t u : g.T) (ts us : List g.T) → a ++ t ∷ ts ≡ b ++ u ∷ us → Fronts a b t u
  fronts [] [] t u ts us e = same refl
  fronts [] (y ∷ b) t u ts us e = shorter b (ap (λ (x : g.T). x ∷ b) (sym (head_is t y ts (b ++ u ∷ us) e)))
  fronts (x ∷ a) [] t u ts us e = longer a (ap (λ (y : g.T). y ∷ a) (head_is x u (a ++ t ∷ ts) us e))
  fronts (x ∷ a) (y ∷ b) t u ts us e = next_fronts x y a b t u (head_is x y (a ++ t ∷ ts) (b ++ u ∷ us) e) (fronts a b t u ts us (tail_is x y (a ++ t ∷ ts) (b ++ u ∷ us) e))
    where
      next_fronts : (x y : g.T) (a b : List g.T) (t u : g.T) → x ≡ y → Fronts a b t u → Fronts (x ∷ a) (y ∷ b) t u
      next_fronts x y a b t u e (same f) = same (ap (λ (z : g.T). z ∷ a) e ∙ ap (λ (zs : List g.T). y ∷ zs) f)
      next_fronts x y a b t u e (shorter late f) = shorter late (ap (λ (z : g.T). z ∷ b) (sym e) ∙ ap (λ (zs : List g.T). x ∷ zs) f)
      next_fronts x y a b t u e (longer late f) = longer late (ap (λ (z : g.T). z ∷ a) e ∙ ap (λ (zs : List g.T). y ∷ zs) f)

  -- a text has one first fault
  pub one_fault : (n : g.N) (room : ℕ) (ts : List g.T) (k l : Fault) (rest late : List g.T) → IsFirstFault n room ts k rest → IsFirstFault n room ts l late → (k ≡ l) × (rest ≡ late)
  one_fault n room ts k l rest late x y = go (fronts x.front y.front x.token y.token x.after y.after (ap (λ (us : List g.T). x.front ++ us) (sym x.place) ∙ sym x.split ∙ y.split ∙ ap (λ (us : List g.T). y.front ++ us) y.place))
    where
      kinds : (k l : Fault) → (k ≡ Unexpected → Begins n (x.front ++ x.token ∷ []) → ⊥) → (l ≡ TooDeep → Begins n (x.front ++ x.token ∷ [])) → (l ≡ Unexpected → Begins n (x.front ++ x.token ∷ []) → ⊥) → (k ≡ TooDeep → Begins n (x.front ++ x.token ∷ [])) → k ≡ l
      kinds Unexpected Unexpected a b c d = refl
      kinds Unexpected TooDeep a b c d = absurd (a refl (b refl))
      kinds TooDeep Unexpected a b c d = absurd (c refl (d refl))
      kinds TooDeep TooDeep a b c d = refl

      go : Fronts x.front y.front x.token y.token → (k ≡ l) × (rest ≡ late)
      go (same f) =
          let r : rest ≡ late = append_cancel_left x.front rest late (sym x.split ∙ y.split ∙ ap (λ (us : List g.T). us ++ late) (sym f)) in
          let t : y.token ≡ x.token = head_is y.token x.token y.after x.after (sym y.place ∙ sym r ∙ x.place) in
          let w : y.front ++ y.token ∷ [] ≡ x.front ++ x.token ∷ [] = ap (λ (us : List g.T). us ++ y.token ∷ []) (sym f) ∙ ap (λ (u : g.T). x.front ++ u ∷ []) t in
          (kinds k l x.unexpected (λ e. subst (λ (us : List g.T). Begins n us) w (y.too_deep e)) (λ e b. y.unexpected e (subst (λ (us : List g.T). Begins n us) (sym w) b)) x.too_deep, r)
      go (shorter more f) = absurd (x.here (low_front n room (x.front ++ x.token ∷ []) more (subst (λ (us : List g.T). BeginsLow n room us) f y.before)))
      go (longer more f) = absurd (y.here (low_front n room (y.front ++ y.token ∷ []) more (subst (λ (us : List g.T). BeginsLow n room us) f x.before)))

  -- a text of a low tree has no fault
  pub no_fault : (n : g.N) (room : ℕ) (ts : List g.T) (a : g.V n) (h : ℕ) (k : Fault) (rest : List g.T) → IsText n ts a h → h ≤ room → IsFirstFault n room ts k rest → ⊥
  no_fault n room ts a h k rest x le f =
      f.here (low_front n room (f.front ++ f.token ∷ []) f.after (record { late = []; tree = a; high = h; low = le; is = record { end = x.end; ends = x.ends; is = subst (λ (w : List g.T). IsPhrase g n w a h (x.end ∷ [])) whole_is x.is } }))
    where
      whole_is : ts ≡ ((f.front ++ f.token ∷ []) ++ f.after) ++ []
      whole_is = f.split ∙ ap (λ (us : List g.T). f.front ++ us) f.place ∙ sym (append_assoc f.front (f.token ∷ []) f.after) ∙ sym (append-nil ((f.front ++ f.token ∷ []) ++ f.after))

  module _ (ready : IsReadable g) (n : g.N) (ended : has (g.goes n) 0 ≡ false) where
    -- a text has one tree, and one place where it ends
    one_phrase : (ts : List g.T) (a b : g.V n) (h k : ℕ) (rest late : List g.T) → IsPhrase g n ts a h rest → IsPhrase g n ts b k late → ok g a h rest ≡ ok g b k late
    one_phrase ts a b h k rest late d e = sym (phrase_read g ready.good (max h k) n ts a h rest d (omega arith)) ∙ phrase_read g ready.good (max h k) n ts b k late e (omega arith)

    pub one_tree : (ts : List g.T) (a b : g.V n) (h k : ℕ) → IsText n ts a h → IsText n ts b k → (a ≡ b) × (h ≡ k)
    one_tree ts a b h k x y = let o = one_phrase ts a b h k (x.end ∷ []) (y.end ∷ []) x.is y.is in (same_value g ready.good a b h k (x.end ∷ []) (y.end ∷ []) o, same_height g ready.good a b h k (x.end ∷ []) (y.end ∷ []) o)

    free_end : (end : g.T) → g.class end ≡ 0 → Free g (g.goes n) (end ∷ [])
    free_end end z = subst (λ c. has (g.goes n) c ≡ false) (sym z) ended

    -- a front that goes on to a phrase goes on to a text
    begins_low : (room : ℕ) (front : List g.T) (end : g.T) → g.class end ≡ 0 → Viable g (IsPhrase g n) (g.goes n) room front → BeginsLow n room front
    begins_low room front end z v = record { late = v.late ++ end ∷ []; tree = v.value; high = v.high; low = v.fits; is = record { end = end; ends = z; is = v.is (end ∷ []) (free_end end z) } }

    begins : (room : ℕ) (front : List g.T) (end : g.T) → g.class end ≡ 0 → Viable g (IsPhrase g n) (g.goes n) room front → Begins n front
    begins room front end z v = let b = begins_low room front end z v in record { late = b.late; tree = b.tree; high = b.high; is = b.is }

    -- the phrase of a text that goes on with this token
    text_phrase : (front late : List g.T) (t : g.T) (a : g.V n) (h : ℕ) → (x : IsText n ((front ++ t ∷ []) ++ late) a h) → IsPhrase g n (front ++ (t ∷ late)) a h (x.end ∷ [])
    text_phrase front late t a h x = subst (λ (w : List g.T). IsPhrase g n w a h (x.end ∷ [])) (regroup front late t) x.is

    too_early : (ts : List g.T) (a : g.V n) (h : ℕ) (rest : List g.T) → (m : Moves g (IsPhrase g n) (g.goes n) ts a h rest) → (t : g.T) (after late : List g.T) → rest ≡ t ∷ after → (next g rest == 0) ≡ false → (b : g.V n) (k : ℕ) → IsText n ((m.text ++ t ∷ []) ++ late) b k → ⊥
    too_early ts a h rest m t after late e f b k x =
        let d = m.is (t ∷ late) (inl (sym (ap (next g) e))) in
        let o = one_phrase (m.text ++ (t ∷ late)) a b h k (t ∷ late) (x.end ∷ []) d (text_phrase m.text late t b k x) in
        let r : t ∷ late ≡ x.end ∷ [] = same_rest g ready.good a b h k (t ∷ late) (x.end ∷ []) o in
        eq_false (next g rest) 0 f (ap (next g) e ∙ ap (next g) r ∙ x.ends)

    verdict_ok : (room : ℕ) (ts : List g.T) → HasEnd ts → (a : g.V n) (h : ℕ) (rest : List g.T) → IsPhrase g n ts a h rest → h ≤ room → IsVerdict n room ts (at_end (ok g a h rest))
    verdict_ok room ts e a h rest d le = go (next g rest == 0) refl
      where
        m : Moves g (IsPhrase g n) (g.goes n) ts a h rest
        m = phrase_moves g ready.good n ts a h rest d

        r : (t : g.T) × (after : List g.T) × (rest ≡ t ∷ after)
        r = rest_of_text ts m.text rest e m.split m.ends

        go : (b : Bool) → (next g rest == 0) ≡ b → IsVerdict n room ts (cond b (ok g a h rest) (Err (Unexpected, rest)))
        go true q =
            let z : g.class r.0 ≡ 0 = sym (ap (next g) r.2) ∙ eq_true _ _ q in
            let last : r.1 ≡ [] = end_last m.text e.body r.0 e.end r.1 (ap (λ (us : List g.T). m.text ++ us) (sym r.2) ∙ sym m.split ∙ e.split) e.real z in
            (record { end = r.0; ends = z; is = subst (λ (w : List g.T). IsPhrase g n ts a h w) (r.2 ∙ ap (λ (us : List g.T). r.0 ∷ us) last) d }, le)
        go false q = record {
          front = m.text;
          token = r.0;
          after = r.1;
          split = m.split;
          place = r.2;
          before = record { late = e.end ∷ []; tree = a; high = h; low = le; is = record { end = e.end; ends = e.ends; is = m.is (e.end ∷ []) (inr (free_end e.end e.ends)) } };
          here = λ x. too_early ts a h rest m r.0 r.1 x.late r.2 q x.tree x.high x.is;
          unexpected = λ k x. too_early ts a h rest m r.0 r.1 x.late r.2 q x.tree x.high x.is;
          too_deep = λ k. other k;
        }
          where
            other : {X : Type 0} → Unexpected ≡ TooDeep → X
            other k = absurd cc

    verdict_err : (room : ℕ) (ts : List g.T) → HasEnd ts → (kind : Fault) (rest : List g.T) → Stuck g (IsPhrase g n) (g.goes n) room ts kind rest → Refuted g (IsPhrase g n) room ts kind rest → IsFirstFault n room ts kind rest
    verdict_err room ts e kind rest x y = record {
      front = x.text;
      token = r.0;
      after = r.1;
      split = x.split;
      place = r.2;
      before = begins_low room x.text e.end e.ends x.before;
      here = λ z. none z.late z.tree z.high z.is (λ k. z.low);
      unexpected = λ k z. none z.late z.tree z.high z.is (λ q. other (sym k ∙ q));
      too_deep = λ k. let d = x.deep k in begins d.3.0 (x.text ++ r.0 ∷ []) e.end e.ends (subst (λ (u : g.T). Viable g (IsPhrase g n) (g.goes n) d.3.0 (x.text ++ u ∷ [])) (head_is d.0 r.0 d.1 r.1 (sym d.2 ∙ r.2)) d.3.1);
    }
      where
        other : {X : Type 0} → Unexpected ≡ TooDeep → X
        other k = absurd cc

        r : (t : g.T) × (after : List g.T) × (rest ≡ t ∷ after)
        r = rest_of_text ts x.text rest e x.split x.ends

        fronts : y.text ≡ x.text
        fronts = append_cancel_right y.text x.text rest (sym y.split ∙ x.split)

        none : (late : List g.T) (b : g.V n) (k : ℕ) → IsText n ((x.text ++ r.0 ∷ []) ++ late) b k → (kind ≡ TooDeep → k ≤ room) → ⊥
        none late b k z small =
            y.none (r.0 ∷ late) (sym (ap (next g) r.2)) b k (z.end ∷ []) small (subst (λ (w : List g.T). IsPhrase g n (w ++ (r.0 ∷ late)) b k (z.end ∷ [])) (sym fronts) (text_phrase x.text late r.0 b k z))

    -- what is read of a text with one end is its verdict
    pub verdict : (room : ℕ) (ts : List g.T) → g.least n ≤ room → HasEnd ts → IsVerdict n room ts (whole room n ts)
    verdict room ts le e = go (reads g room n ts) (read_phrase g ready.good room n ts le) (reads_stuck g ready room n ts le) (reads_refute g ready.good room n ts le)
      where
        go : (out : Out g (g.V n)) → OkAnd g (Fits g (IsPhrase g n) room ts) out → ErrAnd g (Stuck g (IsPhrase g n) (g.goes n) room ts) out → ErrAnd g (Refuted g (IsPhrase g n) room ts) out → IsVerdict n room ts (at_end out)
        go (Ok p) d x y = verdict_ok room ts e p.0 p.1 p.2 d.0 d.1
        go (Err f) d x y = verdict_err room ts e f.0 f.1 x y

    -- a text of a tree that is low enough is read
    pub text_read : (room : ℕ) (ts : List g.T) (a : g.V n) (h : ℕ) → (x : IsText n ts a h) → h ≤ room → whole room n ts ≡ ok g a h (x.end ∷ [])
    text_read room ts a h x le = ap at_end (phrase_read g ready.good room n ts a h (x.end ∷ []) x.is le) ∙ ap (λ b. cond b (ok g a h (x.end ∷ [])) (Err (Unexpected, x.end ∷ []))) (true_eq _ _ x.ends)
