-- What stands behind `_(`, by the next token.
use Rattle.std.proofs.Common.{◌≡◌, ◌≢◌, ⊎_elim, ℕ, suc, nat_le, Bool, true, false, List, [], ◌∷◌, Err, refl, ap, sym, ◌∙◌}
use Rattle.std.specs.Prelude.{◌==◌, ◌||◌}
use Rattle.ebnf.specs.Rules.{by_next}
use Rattle.ebnf.specs.Sets.{has, first, first_rule, low, low_rule, is_empty, is_predictive}
use Rattle.ebnf.specs.Derives.{next}
use Rattle.ebnf.specs.Reading.{Unexpected, TooDeep, read}
use Rattle.ebnf.specs.Tools.{true_not_false, or_cases, eq_true, hasnt_left, hasnt_right, has_either}
use Rattle.c_syntax.specs.declared.token.Keyword.TheVariants as k
use Rattle.c_syntax.specs.declared.token.Sign.TheVariants as s
use Rattle.c_syntax.specs.declared.token.Span.{Span}
use Rattle.c_syntax.specs.Classes.{key, sign}
use Rattle.c_syntax.specs.Lexing.{Lexeme}
use Rattle.c_syntax.specs.Language.{language}
use Rattle.c_syntax.specs.Statements.{Stm}
use Rattle.c_syntax.specs.Grammar as g
use Rattle.c_syntax.specs.Grammar.{P, R}
use Rattle.reader_expressions.specs.Reading.{part, rule_at}
use Rattle.reader_expressions.proofs.Primaries.{fits_one, fits_two}
use Rattle.reader_statements.specs.declared.kinds.Annotation.{Annotation}
use Rattle.reader_statements.specs.declared.kinds.Annotation.TheVariants as forms
use Rattle.reader_statements.specs.declared.kinds.Kind.{Kind}
use Rattle.reader_statements.specs.declared.kinds.Kind.TheVariants as kinds
use Rattle.reader_statements.specs.Rows.{annotation, annotation_of, annotation_class, assert_, ghost, wrap_, unwrap, unwrapping, atomic, kind_begins, one_statement}
use Rattle.reader_statements.proofs.Names.{neither}
use Rattle.reader_statements.proofs.Choices.{every_kind, all_begins, none_begins, none_read}
use Rattle.reader_statements.proofs.Picks.{first_picked, other_picked, other_high, none_picked}

-- ---- forms

abbrev later_forms : P (Span → Stm)
later_forms = by_next ghost (by_next wrap_ (by_next unwrap (by_next unwrapping atomic)))

module _ (room : ℕ) (ts : List Lexeme) where
  pub annotated_fits : (x : Annotation) → next language ts ≡ annotation_class x → nat_le 1 room ≡ true → part room g.annotated ts ≡ part room (annotation_of x) ts
  unfolding read first low is_empty
  annotated_fits forms.Assert e fits = rw e (rw fits refl)
  annotated_fits forms.Ghost e fits = rw e (rw fits refl)
  annotated_fits forms.Wrap e fits = rw e (rw fits refl)
  annotated_fits forms.Unwrap e fits = rw e (rw fits refl)
  annotated_fits forms.Unwrapping e fits = rw e (rw fits refl)
  annotated_fits forms.Atomic e fits = rw e (rw fits refl)

  pub annotated_high : (x : Annotation) → next language ts ≡ annotation_class x → nat_le 1 room ≡ false → part room g.annotated ts ≡ Err (TooDeep, ts)
  unfolding read first low is_empty
  annotated_high forms.Assert e fits = rw e (rw fits refl)
  annotated_high forms.Ghost e fits = rw e (rw fits refl)
  annotated_high forms.Wrap e fits = rw e (rw fits refl)
  annotated_high forms.Unwrap e fits = rw e (rw fits refl)
  annotated_high forms.Unwrapping e fits = rw e (rw fits refl)
  annotated_high forms.Atomic e fits = rw e (rw fits refl)

  pub annotated_guard : has (first language g.annotated) (next language ts) ≡ false → part room g.annotated ts ≡ Err (Unexpected, ts)
  unfolding first is_empty
  annotated_guard h = neither assert_ later_forms room ts (hasnt_left (first language assert_) (first language later_forms) (next language ts) h) refl (hasnt_right (first language assert_) (first language later_forms) (next language ts) h)

abbrev every_form : List Annotation
every_form = forms.Assert ∷ forms.Ghost ∷ forms.Wrap ∷ forms.Unwrap ∷ forms.Unwrapping ∷ forms.Atomic ∷ []

abbrev all_classes : List Annotation → List ℕ
all_classes [] = []
all_classes (x ∷ xs) = annotation_class x ∷ all_classes xs

none_of_all : (xs : List Annotation) (c : ℕ) → ((x : Annotation) → c ≢ annotation_class x) → has (all_classes xs) c ≡ true → ⊥
none_of_all [] c none h = true_not_false _ h refl
none_of_all (x ∷ xs) c none h = ⊎_elim (λ e. none x (eq_true _ _ e)) (none_of_all xs c none) (or_cases (c == annotation_class x) (has (all_classes xs) c) h)

pub annotated_none : (room : ℕ) (ts : List Lexeme) → ((x : Annotation) → next language ts ≢ annotation_class x) → part room g.annotated ts ≡ Err (Unexpected, ts)
unfolding first is_empty
annotated_none room ts none = go (has (first language g.annotated) (next language ts)) refl
  where
    go : (b : Bool) → has (first language g.annotated) (next language ts) ≡ b → part room g.annotated ts ≡ Err (Unexpected, ts)
    go true e = absurd (none_of_all every_form (next language ts) none e)
    go false e = annotated_guard room ts e

-- ---- a statement, or what stands behind `_(`

module _ (room : ℕ) (ts : List Lexeme) where
  not_simple : next language ts ≡ sign s.Annotation → has (first_rule language (g.simple (λ x. x))) (next language ts) ≡ false
  unfolding first_rule first is_empty
  not_simple e = rw e refl

  annotation_begins : next language ts ≡ sign s.Annotation → has (first_rule language annotation) (next language ts) ≡ true
  unfolding first_rule first is_empty
  annotation_begins e = rw e refl

  low_annotation : low_rule language annotation ≡ 2
  unfolding low_rule low
  low_annotation = refl

  low_simple : low_rule language (g.simple (λ x. x)) ≡ 1
  unfolding low_rule low
  low_simple = refl

  pub annotation_fits : (next language ts == sign s.Annotation) ≡ true → nat_le 1 room ≡ true → rule_at room g.statement ts ≡ rule_at room annotation ts
  annotation_fits h fits = let e = eq_true _ _ h in other_picked (g.simple (λ x. x)) annotation room ts (not_simple e) (annotation_begins e) (ap (λ n. nat_le n (suc room)) low_annotation ∙ fits_two room true fits)

  pub annotation_high : (next language ts == sign s.Annotation) ≡ true → nat_le 1 room ≡ false → rule_at room g.statement ts ≡ Err (TooDeep, ts)
  annotation_high h fits = let e = eq_true _ _ h in other_high (g.simple (λ x. x)) annotation room ts (not_simple e) (annotation_begins e) (ap (λ n. nat_le n (suc room)) low_annotation ∙ fits_two room false fits)

  no_annotation : (next language ts == sign s.Annotation) ≡ false → has (first_rule language annotation) (next language ts) ≡ false
  unfolding first_rule first is_empty
  no_annotation h = ap (λ b. b || false) h

  pub simple_read : (next language ts == sign s.Annotation) ≡ false → rule_at room g.statement ts ≡ rule_at room (g.simple (λ x. x)) ts
  simple_read h = go (has (first_rule language (g.simple (λ x. x))) (next language ts)) refl
    where
      go : (b : Bool) → has (first_rule language (g.simple (λ x. x))) (next language ts) ≡ b → rule_at room g.statement ts ≡ rule_at room (g.simple (λ x. x)) ts
      go true e = first_picked (g.simple (λ x. x)) annotation room ts e (ap (λ n. nat_le n (suc room)) low_simple ∙ fits_one room)
      go false e = none_picked (g.simple (λ x. x)) annotation room ts e (no_annotation h) ∙ sym (none_read (λ x. x) room ts e)

-- ---- the tokens that begin a statement

begun : (x : Kind) (c : ℕ) → has (kind_begins x) c ≡ true → has (language.begins g.Statement) c ≡ true
begun kinds.Block c m = ⊎_elim (λ e. ap (has (language.begins g.Statement)) (eq_true _ _ e)) (λ z. absurd (true_not_false _ z refl)) (or_cases (c == sign s.BraceOpen) _ m)
begun kinds.Skip c m = ⊎_elim (λ e. ap (has (language.begins g.Statement)) (eq_true _ _ e)) (λ z. absurd (true_not_false _ z refl)) (or_cases (c == sign s.Semicolon) _ m)
begun kinds.Declaration c m = ⊎_elim (λ e. ap (has (language.begins g.Statement)) (eq_true _ _ e)) (λ m1. ⊎_elim (λ e. ap (has (language.begins g.Statement)) (eq_true _ _ e)) (λ m2. ⊎_elim (λ e. ap (has (language.begins g.Statement)) (eq_true _ _ e)) (λ m3. ⊎_elim (λ e. ap (has (language.begins g.Statement)) (eq_true _ _ e)) (λ z. absurd (true_not_false _ z refl)) (or_cases (c == key k.Struct) _ m3)) (or_cases (c == key k.Unsigned) _ m2)) (or_cases (c == key k.Long) _ m1)) (or_cases (c == key k.Int) _ m)
begun kinds.Named c m = ⊎_elim (λ e. ap (has (language.begins g.Statement)) (eq_true _ _ e)) (λ z. absurd (true_not_false _ z refl)) (or_cases (c == 1) _ m)
begun kinds.Other c m = ⊎_elim (λ e. ap (has (language.begins g.Statement)) (eq_true _ _ e)) (λ m1. ⊎_elim (λ e. ap (has (language.begins g.Statement)) (eq_true _ _ e)) (λ m2. ⊎_elim (λ e. ap (has (language.begins g.Statement)) (eq_true _ _ e)) (λ z. absurd (true_not_false _ z refl)) (or_cases (c == sign s.Open) _ m2)) (or_cases (c == key k.Null) _ m1)) (or_cases (c == 2) _ m)
begun kinds.Branch c m = ⊎_elim (λ e. ap (has (language.begins g.Statement)) (eq_true _ _ e)) (λ z. absurd (true_not_false _ z refl)) (or_cases (c == key k.If) _ m)
begun kinds.While c m = ⊎_elim (λ e. ap (has (language.begins g.Statement)) (eq_true _ _ e)) (λ z. absurd (true_not_false _ z refl)) (or_cases (c == key k.While) _ m)
begun kinds.Do c m = ⊎_elim (λ e. ap (has (language.begins g.Statement)) (eq_true _ _ e)) (λ z. absurd (true_not_false _ z refl)) (or_cases (c == key k.Do) _ m)
begun kinds.For c m = ⊎_elim (λ e. ap (has (language.begins g.Statement)) (eq_true _ _ e)) (λ z. absurd (true_not_false _ z refl)) (or_cases (c == key k.For) _ m)
begun kinds.Return c m = ⊎_elim (λ e. ap (has (language.begins g.Statement)) (eq_true _ _ e)) (λ z. absurd (true_not_false _ z refl)) (or_cases (c == key k.Return) _ m)
begun kinds.Spawn c m = ⊎_elim (λ e. ap (has (language.begins g.Statement)) (eq_true _ _ e)) (λ z. absurd (true_not_false _ z refl)) (or_cases (c == key k.VccSpawn) _ m)
begun kinds.Free c m = ⊎_elim (λ e. ap (has (language.begins g.Statement)) (eq_true _ _ e)) (λ z. absurd (true_not_false _ z refl)) (or_cases (c == key k.Free) _ m)

pub begins_kind : (x : Kind) (c : ℕ) → has (kind_begins x) c ≡ true → true ≡ has (language.begins g.Statement) c
begins_kind x c m = sym (begun x c m)

pub begins_none : (c : ℕ) → ((x : Kind) → has (kind_begins x) c ≡ false) → (c == sign s.Annotation) ≡ has (language.begins g.Statement) c
begins_none c none = go (c == sign s.Annotation) (has (language.begins g.Statement) c) refl refl
  where
    go : (a b : Bool) → (c == sign s.Annotation) ≡ a → has (language.begins g.Statement) c ≡ b → a ≡ b
    go true true x y = refl
    go true false x y = absurd (true_not_false _ (ap (has (language.begins g.Statement)) (eq_true _ _ x)) y)
    go false false x y = refl
    go false true x y = absurd (⊎_elim (none_begins every_kind c none) (λ r. true_not_false _ r (ap (λ b. b || false) x)) (has_either (all_begins every_kind) (sign s.Annotation ∷ []) c y))

pub fine_statement : is_predictive language one_statement ≡ true
unfolding is_predictive
fine_statement = refl

pub some_statement : is_empty language one_statement ≡ false
unfolding is_empty
some_statement = refl

pub begins_one : (c : ℕ) → has (first language one_statement) c ≡ has (language.begins g.Statement) c
unfolding first
begins_one c = refl
