-- How annotations are read by the readers of the whole language.
use Rattle.std.proofs.Common.{◌≡◌, ℕ, zero, suc, ◌-◌, ◌≤◌, max, ◌==◌, true, List, [], ◌∷◌, Ok, Err, refl, ap, sym, ◌∙◌, arith}
use Rattle.ebnf.specs.Rules.{row, below, nothing, form}
use Rattle.ebnf.specs.Sets.{first, first_rule, low, low_rule, is_empty}
use Rattle.ebnf.specs.Derives.{next}
use Rattle.ebnf.specs.Reading.{Out, on, read, read_rule, reads}
use Rattle.ebnf.specs.Tools.{eq_true}
use Rattle.c_syntax.specs.declared.token.Span.{Span}
use Rattle.c_syntax.specs.declared.token.Keyword.{Keyword}
use Rattle.c_syntax.specs.declared.token.Keyword.TheVariants as k
use Rattle.c_syntax.specs.declared.token.Sign.TheVariants as s
use Rattle.c_syntax.specs.Classes.{key, sign}
use Rattle.c_syntax.specs.Faults.{first_token}
use Rattle.c_syntax.specs.Items.{Member}
use Rattle.c_syntax.specs.Statements as st
use Rattle.c_syntax.specs.Statements.{Stm}
use Rattle.c_syntax.specs.Lexing.{Lexeme}
use Rattle.c_syntax.specs.Language.{language}
use Rattle.c_syntax.specs.Grammar as g
use Rattle.c_syntax.specs.Grammar.{P, R, ◌▷◌, GhostBody, word, list, attribute, code, whole_spec, member_annotation}
use Rattle.reader_expressions.specs.Reading.{part, rule_at}
use Rattle.reader_expressions.proofs.Primaries.{fits_one}
use Rattle.reader_annotations.specs.Rows as rows
use Rattle.reader_pieces.specs.Annotations.{Annot, Attributes, Assert, Ghost, Wrap, Unwrap, worded, assert_form, ghost_form, wrap_form, unwrap_form, marks, member, of_member}

-- something else made of what is read
abbrev mapped : {A B : Type 0} → (B → A) → Out language B → Out language A
mapped h out = on language out (λ x i rest. Ok (h x, i, rest))

abbrev after : {A B X : Type 0} → (B → A) → (X → B) → X → A
after h f y = h (f y)

abbrev Same : {A B : Type 0} → (B → A) → P A → P B → Type 0
Same h p q = (room : ℕ) (ts : List Lexeme) → part room p ts ≡ mapped h (part room q ts)

module _ {A B : Type 0} (h : B → A) where
  pub row_same : {X : Type 0} (x : P X) (p : P (X → A)) (q : P (X → B)) → Same (after h) p q → Same h (row x p) (row x q)
  unfolding read
  row_same {X} x p q e room ts = go (part room x ts)
    where
      left : X → ℕ → Out language (X → A) → Out language A
      left b i out = on language out (λ f j rest. Ok (f b, max i j, rest))

      right : X → ℕ → Out language (X → B) → Out language B
      right b i out = on language out (λ f j rest. Ok (f b, max i j, rest))

      inner : (b : X) (i : ℕ) (out : Out language (X → B)) → left b i (mapped (after h) out) ≡ mapped h (right b i out)
      inner b i (Ok r) = refl
      inner b i (Err r) = refl

      go : (out : Out language X) → on language out (λ b i mid. left b i (part room p mid)) ≡ mapped h (on language out (λ b i mid. right b i (part room q mid)))
      go (Ok r) = ap (left r.0 r.1) (e room r.2) ∙ inner r.0 r.1 (part room q r.2)
      go (Err r) = refl

  pub end_same : (v : A) (w : B) → v ≡ h w → Same h (nothing v) (nothing w)
  unfolding read
  end_same v w e room ts = ap (λ x. Ok (x, 0, ts)) e

-- ---- forms of statements

-- an annotation that is a statement, by itself
abbrev annotation_of : Stm → Annot
annotation_of (st.Assert o x) = Assert o x
annotation_of (st.Ghost o x) = Ghost o x
annotation_of (st.Wrap o x) = Wrap o x
annotation_of (st.Unwrap o x) = Unwrap o x
annotation_of _ = Attributes (record { line = 1; column = 1 }) []

module _ {A : Type 0} (w : Keyword) (p : P A) (f : Span → A → Annot) (g : Span → A → Stm) (same : (o : Span) (x : A) → f o x ≡ annotation_of (g o x)) where
  -- a form is read as it is in a statement
  form_read : (room : ℕ) (ts : List Lexeme) → part room (worded w p f) ts ≡ mapped (after annotation_of) (part room (word (key w) ▷ p ▷ word (sign s.Close) ▷ nothing (λ c x q o. g o x)) ts)
  form_read = row_same (after annotation_of) (word (key w)) (p ▷ word (sign s.Close) ▷ nothing (λ c x q o. f o x)) (p ▷ word (sign s.Close) ▷ nothing (λ c x q o. g o x))
      (row_same (after (after annotation_of)) p (word (sign s.Close) ▷ nothing (λ c x q o. f o x)) (word (sign s.Close) ▷ nothing (λ c x q o. g o x))
      (row_same (after (after (after annotation_of))) (word (sign s.Close)) (nothing (λ c x q o. f o x)) (nothing (λ c x q o. g o x))
      (end_same (after (after (after (after annotation_of)))) (λ c x q o. f o x) (λ c x q o. g o x) (λ i c x q o. same o x i))))

pub assert_read : (room : ℕ) (ts : List Lexeme) → part room assert_form ts ≡ mapped (after annotation_of) (part room rows.assert_tail ts)
assert_read = form_read k.Assert whole_spec Assert st.Assert (λ o x. refl)

pub ghost_read : (room : ℕ) (ts : List Lexeme) → part room ghost_form ts ≡ mapped (after annotation_of) (part room rows.ghost_tail ts)
ghost_read = form_read k.Ghost (below GhostBody (λ x. x)) Ghost st.Ghost (λ o x. refl)

pub wrap_read : (room : ℕ) (ts : List Lexeme) → part room wrap_form ts ≡ mapped (after annotation_of) (part room rows.wrap_tail ts)
wrap_read = form_read k.Wrap code Wrap st.Wrap (λ o x. refl)

pub unwrap_read : (room : ℕ) (ts : List Lexeme) → part room unwrap_form ts ≡ mapped (after annotation_of) (part room rows.unwrap_tail ts)
unwrap_read = form_read k.Unwrap code Unwrap st.Unwrap (λ o x. refl)

-- ---- behind a `_(`

-- what is made of the place of the `_(` and of what is read with it
abbrev placed : {A B : Type 0} → (Span → B → A) → (Span → B) → Span → A
placed w f o = w o (f o)

module _ {A B : Type 0} (w : Span → B → A) (p : P (Span → A)) (q : P (Span → B)) (same : Same (placed w) p q) (room : ℕ) where
  -- behind a `_(` the same is read, and something else is made of it
  signed : (ts : List Lexeme) → (next language ts == sign s.Annotation) ≡ true → part room (word (sign s.Annotation) ▷ p) ts ≡ mapped (w (first_token ts).place) (part room (word (sign s.Annotation) ▷ q) ts)
  unfolding read
  signed [] h = absurd cc
  signed (t ∷ us) h = rw h (ap at_left (same room us) ∙ go (part room q us))
    where
      at_left : Out language (Span → A) → Out language A
      at_left out = on language out (λ f j rest. Ok (f t.place, max 0 j, rest))

      at_right : Out language (Span → B) → Out language B
      at_right out = on language out (λ f j rest. Ok (f t.place, max 0 j, rest))

      go : (out : Out language (Span → B)) → at_left (mapped (placed w) out) ≡ mapped (w t.place) (at_right out)
      go (Ok r) = refl
      go (Err r) = refl

-- ---- attributes

attributes_same : Same (placed Attributes) (list attribute ▷ word (sign s.Close) ▷ nothing (λ c xs o. Attributes o xs)) (list attribute ▷ word (sign s.Close) ▷ nothing (λ c xs o. xs))
attributes_same = row_same (placed Attributes) (list attribute) (word (sign s.Close) ▷ nothing (λ c xs o. Attributes o xs)) (word (sign s.Close) ▷ nothing (λ c xs o. xs)) (row_same (after (placed Attributes)) (word (sign s.Close)) (nothing (λ c xs o. Attributes o xs)) (nothing (λ c xs o. xs)) (end_same (after (after (placed Attributes))) (λ c xs o. Attributes o xs) (λ c xs o. xs) refl))

-- a list of attributes, with the place of its `_(`
pub attributes_read : (room : ℕ) (ts : List Lexeme) → (next language ts == sign s.Annotation) ≡ true → part room marks ts ≡ mapped (Attributes (first_token ts).place) (part room g.attribute_list ts)
attributes_read room ts h = signed Attributes (list attribute ▷ word (sign s.Close) ▷ nothing (λ c xs o. Attributes o xs)) (list attribute ▷ word (sign s.Close) ▷ nothing (λ c xs o. xs)) attributes_same room ts h

-- ---- members

abbrev annotated_member : R Member
annotated_member = form (word (sign s.Annotation) ▷ member_annotation ▷ nothing (λ f p. f p))

members_same : Same (placed of_member) (member_annotation ▷ nothing (λ f o. of_member o (f o))) (member_annotation ▷ nothing (λ f o. f o))
members_same = row_same (placed of_member) member_annotation (nothing (λ f o. of_member o (f o))) (nothing (λ f o. f o)) (end_same (after (placed of_member)) (λ f o. of_member o (f o)) (λ f o. f o) refl)

rule_read : (room : ℕ) (ts : List Lexeme) → (next language ts == sign s.Annotation) ≡ true → rule_at room member ts ≡ mapped (of_member (first_token ts).place) (rule_at room annotated_member ts)
unfolding read_rule
rule_read room ts h = ap higher (signed of_member (member_annotation ▷ nothing (λ f o. of_member o (f o))) (member_annotation ▷ nothing (λ f o. f o)) members_same room ts h) ∙ go (part room (word (sign s.Annotation) ▷ member_annotation ▷ nothing (λ f p. f p)) ts)
  where
    higher : Out language Annot → Out language Annot
    higher out = on language out (λ a i rest. Ok (a, suc i, rest))

    go : (out : Out language Member) → higher (mapped (of_member (first_token ts).place) out) ≡ mapped (of_member (first_token ts).place) (on language out (λ a i rest. Ok (a, suc i, rest)))
    go (Ok r) = refl
    go (Err r) = refl

member_rule : (room : ℕ) (ts : List Lexeme) → (next language ts == sign s.Annotation) ≡ true → rule_at room g.member_of ts ≡ rule_at room annotated_member ts
unfolding read_rule first_rule first is_empty low low_rule
member_rule room ts h = let e = eq_true _ _ h in rw e (rw (fits_one room) refl)

-- a member behind its `_(`, with the place of that sign
pub member_read : (room : ℕ) (ts : List Lexeme) → 1 ≤ room → (next language ts == sign s.Annotation) ≡ true → rule_at (room - 1) member ts ≡ mapped (of_member (first_token ts).place) (reads language room g.MemberOf ts)
unfolding reads
member_read zero ts le h = absurd (omega (arith, le))
member_read (suc room) ts le h =
    let less : suc room - 1 ≡ room = omega arith in
    rw less (rule_read room ts h ∙ ap (mapped (of_member (first_token ts).place)) (sym (member_rule room ts h)))
