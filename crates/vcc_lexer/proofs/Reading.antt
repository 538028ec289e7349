-- A source is read in one way only: one list of tokens, or one first fault.
use Rattle.std.proofs.Common.{◌≡◌, ℕ, ◌<◌, ◌≤◌, ◌+◌, true, List, [], ◌∷◌, ◌++◌, length, get_or, take, drop, refl, sym, ap, ◌∙◌, subst, inl, inr, arith, Err}
use Rattle.std.specs.Prelude.{◌⊎◌, codes}
use Rattle.std.proofs.lemmas.List.{length-append, append-nil, get_or-take}
use Rattle.c_syntax.specs.declared.token.Span.{Span}
use Rattle.c_syntax.specs.declared.token.Sign.TheVariants as s
use Rattle.c_syntax.specs.declared.fault.LexFault.{LexFault}
use Rattle.c_syntax.specs.declared.fault.LexFault.TheVariants as f
use Rattle.c_syntax.specs.Tokens as t
use Rattle.c_syntax.specs.Tokens.{Word, IsToken, IsLexical, IsLongest, begins_name}
use Rattle.c_syntax.specs.Lexing as l
use Rattle.c_syntax.specs.Lexing.{Position, Lexeme, Skips, IsFirst, Reaches, Lexes, IsFault, IsFirstFault, IsFirstOrMemory, AreOrMemory, FailsOrMemory, HasNoEnd, place_after, first_position, lexeme_at, most_tokens}
use Rattle.c_syntax.specs.Words.{sign_text}
use Rattle.c_syntax.specs.Numbers.{is_digit}
use Rattle.std.proofs.lemmas.Bool.Decides.{nat_tests}
use Rattle.vcc_lexer.specs.Gaps.{IsBlank}
use Rattle.vcc_lexer.proofs.SignTables.{first_of}
use Rattle.vcc_lexer.proofs.Forms as form
use Rattle.vcc_lexer.proofs.Forms.{Form, form_of, shape_digit}
use Rattle.vcc_lexer.proofs.Skipping.{blank_past}
use Rattle.vcc_lexer.proofs.Determined.{behind_two, same_skip, same_first, same_length, no_token, kind_of, starts}

-- ---- along a text

pub then_reaches : {p q : Position} {text rest : List ℕ} {ts : List Lexeme} → Reaches p text ts q rest → (r : Position) (end : List ℕ) (us : List Lexeme) → Reaches q rest us r end → Reaches p text (ts ++ us) r end
then_reaches l.here r end us d = d
then_reaches (l.skip skips d) r end us e = l.skip skips (then_reaches d r end us e)
then_reaches (l.token first d) r end us e = l.token first (then_reaches d r end us e)

-- one goes on where the other ends
pub record Goes (ts us : List Lexeme) (q q' : Position) (rest rest' : List ℕ) : Type 0 where
  pub more : List Lexeme
  pub is : us ≡ ts ++ more
  pub reaches : Reaches q rest more q' rest'

goes_on : (x : Lexeme) (ts us : List Lexeme) (q q' : Position) (rest rest' : List ℕ) → Goes ts us q q' rest rest' → Goes (x ∷ ts) (x ∷ us) q q' rest rest'
goes_on x ts us q q' rest rest' g = record { more = g.more; is = ap (λ (w : List Lexeme). x ∷ w) g.is; reaches = g.reaches }

either_on : (x : Lexeme) (ts us : List Lexeme) (q q' : Position) (rest rest' : List ℕ) → Goes ts us q q' rest rest' ⊎ Goes us ts q' q rest' rest → Goes (x ∷ ts) (x ∷ us) q q' rest rest' ⊎ Goes (x ∷ us) (x ∷ ts) q' q rest' rest
either_on x ts us q q' rest rest' (inl g) = inl (goes_on x ts us q q' rest rest' g)
either_on x ts us q q' rest rest' (inr g) = inr (goes_on x us ts q' q rest' rest g)

same_place : (p q : Position) (text rest : List ℕ) (us : List Lexeme) (n m : ℕ) → n ≡ m → Reaches (place_after (take m text) p) (drop m text) us q rest → Reaches (place_after (take n text) p) (drop n text) us q rest
same_place p q text rest us n m e d = subst (λ k. Reaches (place_after (take k text) p) (drop k text) us q rest) (sym e) d

same_lexeme : (p : Position) (a b : Word) (n m : ℕ) → a ≡ b → n ≡ m → lexeme_at p a n ≡ lexeme_at p b m
same_lexeme p a b n m e h = ap (λ w. lexeme_at p w n) e ∙ ap (λ k. lexeme_at p b k) h

turned : (x y : Lexeme) (ts us : List Lexeme) (q q' : Position) (rest rest' : List ℕ) → x ≡ y → Goes (x ∷ ts) (x ∷ us) q q' rest rest' ⊎ Goes (x ∷ us) (x ∷ ts) q' q rest' rest → Goes (x ∷ ts) (y ∷ us) q q' rest rest' ⊎ Goes (y ∷ us) (x ∷ ts) q' q rest' rest
turned x y ts us q q' rest rest' e g = subst (λ z. Goes (x ∷ ts) (z ∷ us) q q' rest rest' ⊎ Goes (z ∷ us) (x ∷ ts) q' q rest' rest) e g

pub continues : {p q q' : Position} {text rest rest' : List ℕ} {ts us : List Lexeme} → Reaches p text ts q rest → Reaches p text us q' rest' → Goes ts us q q' rest rest' ⊎ Goes us ts q' q rest' rest
continues {us = us} l.here e = inl (record { more = us; is = refl; reaches = e })
continues {ts = ts} (l.skip skips d) l.here = inr (record { more = ts; is = refl; reaches = l.skip skips d })
continues {ts = ts} (l.token first d) l.here = inr (record { more = ts; is = refl; reaches = l.token first d })
continues {p} {q} {q'} {text} {rest} {rest'} {ts} {us} (l.skip {n = n} skips d) (l.skip {n = m} skips' e) = continues d (same_place p q' text rest' us n m (same_skip p p text n m skips skips') e)
continues {text = text} (l.skip skips d) (l.token {word = word} {n = m} first e) = absurd (no_token text (kind_of skips) word m first)
continues {text = text} (l.token {word = word} {n = n} first d) (l.skip skips e) = absurd (no_token text (kind_of skips) word n first)
continues {p} {q} {q'} {text} {rest} {rest'} (l.token {word = a} {n = n} {ts = ts} first d) (l.token {word = b} {n = m} {ts = us} first' e) =
    let same = same_first text a b n m first first' in
    turned (lexeme_at p a n) (lexeme_at p b m) ts us q q' rest rest' (same_lexeme p a b n m same.word same.length) (either_on (lexeme_at p a n) ts us q q' rest rest' (continues d (same_place p q' text rest' us n m same.length e)))

-- ---- the end

some_skipped : {p : Position} {text : List ℕ} {n : ℕ} → Skips p text n → 0 < length text
some_skipped (l.blank b rest e h k) = omega (arith, ap length e)
some_skipped (l.comment body rest e none k) = omega (arith, ap length e)
some_skipped (l.line_comment body rest e all ends k) = omega (arith, ap length e)
some_skipped (l.include rest e column ends k) = omega (arith, ap length e)

pub skip_within : {p : Position} {text : List ℕ} {n : ℕ} → Skips p text n → (0 < n) × (n ≤ length text)
skip_within (l.blank b rest e h k) = (omega arith, omega (arith, ap length e))
skip_within (l.comment body rest e none k) = (omega arith, omega (arith, ap length e, length-append (codes "/*" ++ body ++ codes "*/") rest, length-append (codes "/*" ++ body) (codes "*/")))
skip_within (l.line_comment body rest e all ends k) = (omega arith, omega (arith, ap length e, length-append (codes "//" ++ body) rest))
skip_within (l.include rest e column ends k) = (omega arith, omega (arith, ap length e))

record Ends (q q' : Position) (rest : List ℕ) (ts : List Lexeme) : Type 0 where
  pub none : ts ≡ []
  pub place : q' ≡ q
  pub end : rest ≡ []

at_end : {q q' : Position} {text rest : List ℕ} {ts : List Lexeme} → Reaches q text ts q' rest → text ≡ [] → Ends q q' rest ts
at_end l.here e = record { none = refl; place = refl; end = e }
at_end (l.skip skips d) e = absurd (omega (arith, some_skipped skips, ap length e))
at_end {text = text} (l.token {n = n} first d) e = let x = starts text n first.longest.is in let y = x.1 in absurd (omega (arith, ap length e))

-- ---- one list of tokens

ended : (bytes : List ℕ) (ts us : List Lexeme) → (a : Lexes bytes ts) → (b : Lexes bytes us) → Goes a.before b.before a.end b.end [] [] → us ≡ ts
ended bytes ts us a b g =
    let e = at_end g.reaches refl in
    let same : b.before ≡ a.before = g.is ∙ ap (λ (w : List Lexeme). a.before ++ w) e.none ∙ append-nil a.before in
    b.last ∙ ap (λ (w : List Lexeme). w ++ lexeme_at b.end t.End 0 ∷ []) same ∙ ap (λ q. a.before ++ lexeme_at q t.End 0 ∷ []) e.place ∙ sym a.last

pub same_tokens : (bytes : List ℕ) (ts us : List Lexeme) → Lexes bytes ts → Lexes bytes us → ts ≡ us
same_tokens bytes ts us a b = elim (continues a.reaches b.reaches) [ inl g ↦ sym (ended bytes ts us a b g) | inr g ↦ ended bytes us ts b a g ]

-- ---- one first fault

slash_no_name : (b : ℕ) → b ≡ 47 → begins_name b ≡ true → ⊥
slash_no_name b e h = grind (arith, nat_tests)

slash_no_digit : (b : ℕ) → b ≡ 47 → is_digit b ≡ true → ⊥
slash_no_digit b e h = grind (arith, nat_tests)

blank_no_slash : (b : ℕ) → b ≡ 47 → IsBlank b → ⊥
blank_no_slash b e (inl h) = omega arith
blank_no_slash b e (inr (inl h)) = omega arith
blank_no_slash b e (inr (inr (inl h))) = omega arith
blank_no_slash b e (inr (inr (inr h))) = omega arith

-- what begins with `/` is the sign or a comment
slash_token : (text : List ℕ) (n : ℕ) → get_or text 0 0 ≡ 47 → IsLexical (take n text) → IsToken (t.Mark s.Slash) (take n text)
slash_token text n e h = go (form_of (take n text) h)
  where
    head : get_or (take n text) 0 0 ≡ 47
    head = get_or-take n text 0 0 (starts text n h).0 ∙ e

    go : Form (take n text) → IsToken (t.Mark s.Slash) (take n text)
    go (form.named b all some) = absurd (slash_no_name (get_or (take n text) 0 0) head b)
    go (form.spec b letter some all) = absurd (omega (arith, head))
    go (form.mark x m) = m ∙ ap (λ y. sign_text y) ((first_of x).slash (sym (ap (λ (w : List ℕ). get_or w 0 0) m) ∙ head))
    go (form.shape base digits letters x) = absurd (slash_no_digit (get_or (take n text) 0 0) head (shape_digit base digits letters (take n text) x))

slash_is : (text rest : List ℕ) (n : ℕ) → text ≡ codes "/*" ++ rest → IsLexical (take n text) → IsToken (t.Mark s.Slash) (take n text)
slash_is text rest n e h = slash_token text n (ap (λ (w : List ℕ). get_or w 0 0) e) h

line_slash : (text rest : List ℕ) (n : ℕ) → text ≡ codes "//" ++ rest → IsLexical (take n text) → IsToken (t.Mark s.Slash) (take n text)
line_slash text rest n e h = slash_token text n (ap (λ (w : List ℕ). get_or w 0 0) e) h

one_slash : (text rest : List ℕ) → text ≡ codes "/*" ++ rest → IsLexical (take 1 text)
one_slash text rest e = inl (t.Mark s.Slash, ap (λ (w : List ℕ). take 1 w) e)

comment_begins : (text rest : List ℕ) → text ≡ codes "/*" ++ rest → l.BeginsComment text
comment_begins text rest e = (ap (λ (w : List ℕ). get_or w 0 0) e, inl (ap (λ (w : List ℕ). get_or w 1 0) e))

pub same_fault_here : (count : ℕ) (place : Span) (text : List ℕ) (a b : LexFault) → IsFault count place text a → IsFault count place text b → a ≡ b
same_fault_here count place text (f.BadByte x) (f.BadByte y) p q = ap (λ z. f.BadByte z) (p.0 ∙ sym q.0)
same_fault_here count place text (f.BadByte x) (f.BadNumber y) p q = absurd (p.3 q.1 q.2.is)
same_fault_here count place text (f.BadByte x) (f.OpenComment y) p q = absurd (p.3 1 (one_slash text q.1 q.2))
same_fault_here count place text (f.BadByte x) (f.TooManyTokens y) p q = absurd (p.3 q.3 (inl (q.2, q.4.is)))
same_fault_here count place text (f.BadNumber x) (f.BadByte y) p q = absurd (q.3 p.1 p.2.is)
same_fault_here count place text (f.BadNumber x) (f.BadNumber y) p q = ap (λ z. f.BadNumber z) (p.0 ∙ sym q.0)
same_fault_here count place text (f.BadNumber x) (f.OpenComment y) p q = absurd (p.3 (t.Mark s.Slash) (slash_is text q.1 p.1 q.2 p.2.is))
same_fault_here count place text (f.BadNumber x) (f.TooManyTokens y) p q = absurd (p.3 q.2 (subst (λ k. IsToken q.2 (take k text)) (same_length text q.3 p.1 q.4.longest p.2) q.4.is))
same_fault_here count place text (f.OpenComment x) (f.BadByte y) p q = absurd (q.3 1 (one_slash text p.1 p.2))
same_fault_here count place text (f.OpenComment x) (f.BadNumber y) p q = absurd (q.3 (t.Mark s.Slash) (slash_is text p.1 q.1 p.2 q.2.is))
same_fault_here count place text (f.OpenComment x) (f.OpenComment y) p q = ap (λ z. f.OpenComment z) (p.0 ∙ sym q.0)
same_fault_here count place text (f.OpenComment x) (f.TooManyTokens y) p q = absurd (q.4.code (comment_begins text p.1 p.2))
same_fault_here count place text (f.TooManyTokens x) (f.BadByte y) p q = absurd (q.3 p.3 (inl (p.2, p.4.is)))
same_fault_here count place text (f.TooManyTokens x) (f.BadNumber y) p q = absurd (q.3 p.2 (subst (λ k. IsToken p.2 (take k text)) (same_length text p.3 q.1 p.4.longest q.2) p.4.is))
same_fault_here count place text (f.TooManyTokens x) (f.OpenComment y) p q = absurd (p.4.code (comment_begins text q.1 q.2))
same_fault_here count place text (f.TooManyTokens x) (f.TooManyTokens y) p q = ap (λ z. f.TooManyTokens z) (p.0 ∙ sym q.0)
same_fault_here count place text f.OutOfMemory b p q = absurd p
same_fault_here count place text a f.OutOfMemory p q = absurd q

-- a comment without end is nothing that is skipped
open_stays : (p : Position) (text rest : List ℕ) (n : ℕ) → text ≡ codes "/*" ++ rest → HasNoEnd rest → Skips p text n → ⊥
open_stays p text rest n e none (l.blank b rest' e' h k) = blank_no_slash b (sym (ap (λ (w : List ℕ). get_or w 0 0) e') ∙ ap (λ (w : List ℕ). get_or w 0 0) e) h
open_stays p text rest n e none (l.comment body rest' e' none' k) = none body rest' (behind_two 47 42 rest (body ++ codes "*/" ++ rest') (sym e ∙ e'))
open_stays p text rest n e none (l.line_comment body rest' e' all ends k) = let a : get_or text 1 0 ≡ 42 = ap (λ (w : List ℕ). get_or w 1 0) e in let b : get_or text 1 0 ≡ 47 = ap (λ (w : List ℕ). get_or w 1 0) e' in omega arith
open_stays p text rest n e none (l.include rest' e' column ends k) = let a : get_or text 0 0 ≡ 47 = ap (λ (w : List ℕ). get_or w 0 0) e in let b : get_or text 0 0 ≡ 35 = ap (λ (w : List ℕ). get_or w 0 0) e' in omega arith

-- a number that is none is nothing that is skipped, nor is any token but `/`
number_stays : (p : Position) (text : List ℕ) (n m : ℕ) → IsLongest text n → ((word : Word) → IsToken word (take n text) → ⊥) → Skips p text m → ⊥
number_stays p text n m long none (l.blank b rest e h k) = let x = starts text n long.is in let y = x.2 in blank_past (get_or text 0 0) y (subst (λ z. IsBlank z) (sym (ap (λ (w : List ℕ). get_or w 0 0) e)) h)
number_stays p text n m long none (l.comment body rest e ends k) = none (t.Mark s.Slash) (slash_is text (body ++ codes "*/" ++ rest) n e long.is)
number_stays p text n m long none (l.line_comment body rest e all ends k) = none (t.Mark s.Slash) (line_slash text (body ++ rest) n e long.is)
number_stays p text n m long none (l.include rest e column ends k) = (starts text n long.is).3 (ap (λ (w : List ℕ). get_or w 0 0) e)

-- nothing is skipped at a fault
fault_stays : (p : Position) (count : ℕ) (text : List ℕ) (a : LexFault) (n : ℕ) → IsFault count p.place text a → Skips p text n → ⊥
fault_stays p count text (f.BadByte x) n h skips = h.2 p n refl skips
fault_stays p count text (f.BadNumber x) n h skips = number_stays p text h.1 n h.2 h.3 skips
fault_stays p count text (f.OpenComment x) n h skips = open_stays p text h.1 n h.2 h.3 skips
fault_stays p count text (f.TooManyTokens x) n h skips = no_token text (kind_of skips) h.2 h.3 h.4
fault_stays p count text f.OutOfMemory n h skips = h

-- a token at a fault is one too many
fault_full : (p : Position) (count : ℕ) (text : List ℕ) (a : LexFault) (word : Word) (n : ℕ) → IsFault count p.place text a → IsFirst text word n → count ≡ most_tokens
fault_full p count text (f.BadByte x) word n h first = absurd (h.3 n (inl (word, first.is)))
fault_full p count text (f.BadNumber x) word n h first = absurd (h.3 word (subst (λ k. IsToken word (take k text)) (same_length text n h.1 first.longest h.2) first.is))
fault_full p count text (f.OpenComment x) word n h first = absurd (first.code (comment_begins text h.1 h.2))
fault_full p count text (f.TooManyTokens x) word n h first = h.1
fault_full p count text f.OutOfMemory word n h first = absurd h

-- no fault at the end
fault_some : (count : ℕ) (place : Span) (text : List ℕ) (a : LexFault) → IsFault count place text a → 0 < length text
fault_some count place text (f.BadByte x) h = h.1
fault_some count place text (f.BadNumber x) h = (starts text h.1 h.2.is).1
fault_some count place text (f.OpenComment x) h = omega (arith, ap length h.2)
fault_some count place text (f.TooManyTokens x) h = (starts text h.3 h.4.longest.is).1
fault_some count place text f.OutOfMemory h = absurd h

-- from a fault nothing goes on, unless there are as many tokens as there may be
record Stays (q q' : Position) (rest rest' : List ℕ) (more : List Lexeme) : Type 0 where
  pub none : more ≡ []
  pub place : q' ≡ q
  pub is_rest : rest' ≡ rest

stays : {q q' : Position} {rest rest' : List ℕ} {more : List Lexeme} (count : ℕ) (a : LexFault) → IsFault count q.place rest a → Reaches q rest more q' rest' → count + length more ≤ most_tokens → Stays q q' rest rest' more
stays count a h l.here few = record { none = refl; place = refl; is_rest = refl }
stays {q} {rest = rest} count a h (l.skip {n = n} skips d) few = absurd (fault_stays q count rest a n h skips)
stays {q} {rest = rest} count a h (l.token {word = word} {n = n} {ts = ts} first d) few = let full = fault_full q count rest a word n h first in absurd (omega arith)

ahead : (bytes : List ℕ) (a b : LexFault) → (x : IsFirstFault bytes a) → (y : IsFirstFault bytes b) → Goes x.before y.before x.here y.here x.rest y.rest → a ≡ b
ahead bytes a b x y g =
    let count : length y.before ≡ length x.before + length g.more = ap length g.is ∙ length-append x.before g.more in
    let s = stays (length x.before) a x.is g.reaches (omega (arith, y.few)) in
    let same : length y.before ≡ length x.before = omega (arith, ap length s.none) in
    same_fault_here (length x.before) x.here.place x.rest a b x.is (subst (λ k. IsFault k x.here.place x.rest b) same (subst (λ p. IsFault (length y.before) p.place x.rest b) s.place (subst (λ (w : List ℕ). IsFault (length y.before) y.here.place w b) s.is_rest y.is)))

pub same_fault : (bytes : List ℕ) (a b : LexFault) → IsFirstFault bytes a → IsFirstFault bytes b → a ≡ b
same_fault bytes a b x y = elim (continues x.reaches y.reaches) [ inl g ↦ ahead bytes a b x y g | inr g ↦ sym (ahead bytes b a y x g) ]

-- where the bytes are tokens, no more than there may be, there is no fault
pub no_fault : (bytes : List ℕ) (a : LexFault) (ts : List Lexeme) → IsFirstFault bytes a → Lexes bytes ts → length ts ≤ 262145 → ⊥
no_fault bytes a ts x y few =
    let total : length ts ≡ length y.before + 1 = ap length y.last ∙ length-append y.before (lexeme_at y.end t.End 0 ∷ []) in
    elim (continues x.reaches y.reaches) [
      | inl g ↦
          let count : length y.before ≡ length x.before + length g.more = ap length g.is ∙ length-append x.before g.more in
          let s = stays (length x.before) a x.is g.reaches (omega arith) in
          omega (arith, fault_some (length x.before) x.here.place x.rest a x.is, ap length s.is_rest)
      | inr g ↦ omega (arith, fault_some (length x.before) x.here.place x.rest a x.is, ap length (at_end g.reaches refl).end)
    ]

-- ---- what is answered

pub only_fault : {X : Type 0} (view : X → List Lexeme) (bytes : List ℕ) (a : LexFault) (ts : List Lexeme) → IsFirstOrMemory bytes a → Lexes bytes ts → length ts ≤ 262145 → AreOrMemory view ts (Err a)
only_fault view bytes (f.BadByte x) ts h y few = no_fault bytes (f.BadByte x) ts h y few
only_fault view bytes (f.BadNumber x) ts h y few = no_fault bytes (f.BadNumber x) ts h y few
only_fault view bytes (f.OpenComment x) ts h y few = no_fault bytes (f.OpenComment x) ts h y few
only_fault view bytes (f.TooManyTokens x) ts h y few = no_fault bytes (f.TooManyTokens x) ts h y few
only_fault view bytes f.OutOfMemory ts h y few = tt

pub first_fault : (X : Type 0) (bytes : List ℕ) (a b : LexFault) → IsFirstOrMemory bytes a → IsFirstFault bytes b → FailsOrMemory {X = X} b (Err a)
first_fault X bytes (f.BadByte x) b h y = same_fault bytes (f.BadByte x) b h y
first_fault X bytes (f.BadNumber x) b h y = same_fault bytes (f.BadNumber x) b h y
first_fault X bytes (f.OpenComment x) b h y = same_fault bytes (f.OpenComment x) b h y
first_fault X bytes (f.TooManyTokens x) b h y = same_fault bytes (f.TooManyTokens x) b h y
first_fault X bytes f.OutOfMemory b h y = tt

-- ---- one step on

pub skipped_on : (bytes text : List ℕ) (p : Position) (ts : List Lexeme) (n : ℕ) → Reaches first_position bytes ts p text → Skips p text n → Reaches first_position bytes ts (place_after (take n text) p) (drop n text)
skipped_on bytes text p ts n r skips = subst (λ (w : List Lexeme). Reaches first_position bytes w (place_after (take n text) p) (drop n text)) (append-nil ts) (then_reaches r (place_after (take n text) p) (drop n text) [] (l.skip skips l.here))

pub token_on : (bytes text : List ℕ) (p : Position) (ts : List Lexeme) (word : Word) (n : ℕ) → Reaches first_position bytes ts p text → IsFirst text word n → Reaches first_position bytes (ts ++ lexeme_at p word n ∷ []) (place_after (take n text) p) (drop n text)
token_on bytes text p ts word n r first = then_reaches r (place_after (take n text) p) (drop n text) (lexeme_at p word n ∷ []) (l.token first l.here)

-- the same, with the text and the place as the code has them
pub moved_to : (bytes text front back : List ℕ) (p q : Position) (ts : List Lexeme) (n : ℕ) → front ≡ take n text → back ≡ drop n text → q ≡ place_after front p → Reaches first_position bytes ts (place_after (take n text) p) (drop n text) → Reaches first_position bytes ts q back
moved_to bytes text front back p q ts n f b e r =
    let at : q ≡ place_after (take n text) p = e ∙ ap (λ (w : List ℕ). place_after w p) f in
    subst (λ (w : List ℕ). Reaches first_position bytes ts q w) (sym b) (subst (λ x. Reaches first_position bytes ts x (drop n text)) (sym at) r)

pub token_some : (text : List ℕ) (word : Word) (n : ℕ) → IsFirst text word n → 0 < n
token_some text word n first = (starts text n first.longest.is).0

-- a fault behind tokens that are found is the first
pub fault_found : (bytes : List ℕ) (ts : List Lexeme) (p : Position) (rest : List ℕ) (a : LexFault) → Reaches first_position bytes ts p rest → length ts ≤ most_tokens → IsFault (length ts) p.place rest a → IsFirstOrMemory bytes a
fault_found bytes ts p rest (f.BadByte x) r few h = record { before = ts; few = few; here = p; rest = rest; reaches = r; is = h }
fault_found bytes ts p rest (f.BadNumber x) r few h = record { before = ts; few = few; here = p; rest = rest; reaches = r; is = h }
fault_found bytes ts p rest (f.OpenComment x) r few h = record { before = ts; few = few; here = p; rest = rest; reaches = r; is = h }
fault_found bytes ts p rest (f.TooManyTokens x) r few h = record { before = ts; few = few; here = p; rest = rest; reaches = r; is = h }
fault_found bytes ts p rest f.OutOfMemory r few h = tt
