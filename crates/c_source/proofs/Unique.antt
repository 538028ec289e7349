-- Bytes have one tree, or one first fault.
use Rattle.std.proofs.Common.{◌≡◌, ◌⊎◌, inl, inr, ℕ, suc, ◌≤◌, Bool, true, false, List, [], ◌∷◌, ◌++◌, length, Result, Ok, Err, refl, ap, ap₂, sym, ◌∙◌, subst}
use Rattle.c_syntax.specs.declared.token.Span.{Span}
use Rattle.c_syntax.specs.declared.fault.LexFault.{LexFault}
use Rattle.c_syntax.specs.declared.fault.LexFault.TheVariants as lexical
use Rattle.ebnf.specs.Derives.{next}
use Rattle.ebnf.specs.Sets.{has}
use Rattle.ebnf.specs.Refutes.{phrase_opens}
use Rattle.ebnf.specs.Tools.{true_not_false}
use Rattle.c_syntax.specs.Tokens as t
use Rattle.c_syntax.specs.Lexing.{Lexeme, Lexes, IsFirstFault, lexeme_at}
use Rattle.c_syntax.specs.Items.{Item}
use Rattle.c_syntax.specs.Grammar.{Program}
use Rattle.c_syntax.specs.Language.{language, begins}
use Rattle.c_syntax.specs.Readable.{readable}
use Rattle.c_syntax.specs.Laws.{IsProgram, one_program}
use Rattle.c_syntax.specs.Faults.{SyntaxFault, UnexpectedToken, UnknownForm, TooHigh, IsSource, none, some, IsSyntaxFault}
use Rattle.c_syntax.specs.SourceLaws.{one_syntax_fault, no_syntax_fault}
use Rattle.vcc_lexer.proofs.Reading.{same_tokens, same_fault, no_fault}
use Rattle.c_source.specs.declared.fault.SourceFault.{SourceFault}
use Rattle.c_source.specs.declared.fault.SourceFault.TheVariants as f
use Rattle.c_source.specs.Sources.{IsText, IsWithinLimits, HasSyntaxFault, IsFault}
use Rattle.c_source.specs.Laws.{OneText, OneFault, NotBoth}

-- a program doesn't begin with the end
not_end : (ts : List Lexeme) (items : List Item) (h : ℕ) → next language ts ≡ 0 → IsProgram ts items h → ⊥
not_end ts items h z x = true_not_false (has (begins Program) 0) (subst (λ c. has (begins Program) c ≡ true) z (phrase_opens language readable.good Program ts items h (x.end ∷ []) x.is).0) (readable.real Program)

one_source : (ts : List Lexeme) (a b : List Item) (h k : ℕ) → IsSource ts a h → IsSource ts b k → a ≡ b
one_source ts a b h k (none z e p) (none y g q) = e ∙ sym g
one_source ts a b h k (none z e p) (some y) = absurd (not_end ts b k z y)
one_source ts a b h k (some x) (none y g q) = absurd (not_end ts a h y x)
one_source ts a b h k (some x) (some y) = (one_program ts a b h k x y).0

-- two lists that are one have one last element
pub last_same : {X : Type 0} (a b : List X) (x y : X) → a ++ x ∷ [] ≡ b ++ y ∷ [] → x ≡ y
last_same [] [] x y e = cc
last_same [] (v ∷ []) x y e = absurd cc
last_same [] (v ∷ w ∷ b) x y e = absurd cc
last_same (v ∷ []) [] x y e = absurd cc
last_same (v ∷ w ∷ a) [] x y e = absurd cc
last_same (v ∷ a) (w ∷ b) x y e = last_same a b x y cc

-- the place of the end of one list of tokens
one_end : (bytes : List ℕ) (ts us : List Lexeme) (x : Lexes bytes ts) (y : Lexes bytes us) → ts ≡ us → x.end.place ≡ y.end.place
one_end bytes ts us x y e = ap (λ (l : Lexeme). l.place) (last_same x.before y.before (lexeme_at x.end t.End 0) (lexeme_at y.end t.End 0) (sym x.last ∙ e ∙ y.last))

pub one_text : OneText
one_text bytes a b p q x y =
    let same : x.tokens ≡ y.tokens = same_tokens bytes x.tokens y.tokens x.lexes y.lexes in
    (one_source y.tokens a b x.height y.height (subst (λ (ts : List Lexeme). IsSource ts a x.height) same x.is) y.is, x.ends ∙ one_end bytes x.tokens y.tokens x.lexes y.lexes same ∙ sym y.ends)

-- ---- faults

-- the fault of tokens, or of syntax
abbrev pub of_tokens : LexFault → SourceFault
of_tokens (lexical.BadByte p) = f.BadByte p
of_tokens (lexical.BadNumber p) = f.BadNumber p
of_tokens (lexical.OpenComment p) = f.OpenComment p
of_tokens (lexical.TooManyTokens p) = f.TooManyTokens p
of_tokens lexical.OutOfMemory = f.OutOfMemory

abbrev pub of_syntax : SyntaxFault → Span → SourceFault
of_syntax UnexpectedToken p = f.Unexpected p
of_syntax UnknownForm p = f.UnknownForm p
of_syntax TooHigh p = f.TooDeep p

-- Each fault is one of tokens or one of syntax.
data Kind (bytes : List ℕ) (fault : SourceFault) : Type 0 where
  tokens : (e : LexFault) → IsFirstFault bytes e → fault ≡ of_tokens e → Kind bytes fault
  syntax_ : (e : SyntaxFault) (p : Span) → HasSyntaxFault bytes e p → fault ≡ of_syntax e p → Kind bytes fault

kind_of : (bytes : List ℕ) (fault : SourceFault) → IsFault bytes fault → Kind bytes fault
kind_of bytes (f.BadByte p) x = tokens (lexical.BadByte p) x refl
kind_of bytes (f.BadNumber p) x = tokens (lexical.BadNumber p) x refl
kind_of bytes (f.OpenComment p) x = tokens (lexical.OpenComment p) x refl
kind_of bytes (f.TooManyTokens p) x = tokens (lexical.TooManyTokens p) x refl
kind_of bytes (f.Unexpected p) x = syntax_ UnexpectedToken p x refl
kind_of bytes (f.UnknownForm p) x = syntax_ UnknownForm p x refl
kind_of bytes (f.TooDeep p) x = syntax_ TooHigh p x refl
kind_of bytes f.OutOfMemory x = absurd x

tokens_then_syntax : (bytes : List ℕ) (e : LexFault) (g : SyntaxFault) (p : Span) → IsFirstFault bytes e → HasSyntaxFault bytes g p → ⊥
tokens_then_syntax bytes e g p x y = no_fault bytes e y.tokens x y.lexes y.few

pub one_fault : OneFault
one_fault bytes e g x y = go (kind_of bytes e x) (kind_of bytes g y)
  where
    go : Kind bytes e → Kind bytes g → e ≡ g
    go (tokens a u p) (tokens b v q) = p ∙ ap of_tokens (same_fault bytes a b u v) ∙ sym q
    go (tokens a u p) (syntax_ b s v q) = absurd (tokens_then_syntax bytes a b s u v)
    go (syntax_ a r u p) (tokens b v q) = absurd (tokens_then_syntax bytes b a r v u)
    go (syntax_ a r u p) (syntax_ b s v q) =
        let same : u.tokens ≡ v.tokens = same_tokens bytes u.tokens v.tokens u.lexes v.lexes in
        let both = one_syntax_fault v.tokens a b r s (subst (λ (ts : List Lexeme). IsSyntaxFault ts a r) same u.is) v.is in
        p ∙ ap₂ of_syntax both.0 both.1 ∙ sym q

pub not_both : NotBoth
not_both bytes items end x fault within y = go (kind_of bytes fault y)
  where
    go : Kind bytes fault → ⊥
    go (tokens a u p) = no_fault bytes a x.tokens u x.lexes within.few
    go (syntax_ a r u p) =
        let same : u.tokens ≡ x.tokens = same_tokens bytes u.tokens x.tokens u.lexes x.lexes in
        no_syntax_fault x.tokens items x.height a r x.is within.low (subst (λ (ts : List Lexeme). IsSyntaxFault ts a r) same u.is)
