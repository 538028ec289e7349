-- The end of a source's tokens: no other token is one.
use Rattle.std.proofs.Common.{◌≡◌, ℕ, List, [], ◌∷◌, ◌++◌, refl, arith}
use Rattle.c_syntax.specs.declared.token.Keyword.{Keyword}
use Rattle.c_syntax.specs.declared.token.Keyword.TheVariants as k
use Rattle.c_syntax.specs.declared.token.SpecWord.{SpecWord}
use Rattle.c_syntax.specs.declared.token.SpecWord.TheVariants as w
use Rattle.c_syntax.specs.declared.token.Sign.{Sign}
use Rattle.c_syntax.specs.declared.token.Sign.TheVariants as s
use Rattle.c_syntax.specs.Tokens as t
use Rattle.c_syntax.specs.Tokens.{Word, IsToken}
use Rattle.c_syntax.specs.Classes.{key, spec, sign, class_of}
use Rattle.c_syntax.specs.Lexing.{Lexeme, Position, Reaches, here, skip, token, Lexes, lexeme_at}
use Rattle.c_syntax.specs.Language.{language}
use Rattle.ebnf.specs.Moves.{HasNoEnd}
use Rattle.ebnf.specs.Verdict.{HasEnd}

some_key : (x : Keyword) → key x ≡ 0 → ⊥
some_key k.Claimable e = omega (arith, e)
some_key _ e = omega (arith, e)

some_spec : (x : SpecWord) → spec x ≡ 0 → ⊥
some_spec w.Object e = omega (arith, e)
some_spec _ e = omega (arith, e)

some_sign : (x : Sign) → sign x ≡ 0 → ⊥
some_sign s.Open e = omega (arith, e)
some_sign _ e = omega (arith, e)

-- what is a token of a text is no end
some_class : (x : Word) (text : List ℕ) → IsToken x text → class_of x ≡ 0 → ⊥
some_class (t.Name name) text is e = omega (arith, e)
some_class (t.Key x) text is e = some_key x e
some_class (t.Spec x) text is e = some_spec x e
some_class t.OtherSpec text is e = omega (arith, e)
some_class (t.Number n ty) text is e = omega (arith, e)
some_class (t.Mark x) text is e = some_sign x e
some_class t.End text is e = is

no_end : (p q : Position) (text rest : List ℕ) (ts : List Lexeme) → Reaches p text ts q rest → HasNoEnd language ts
no_end p q text rest ts here = tt
no_end p q text rest ts (skip x r) = no_end _ q _ rest ts r
no_end p q text rest ts (token {word = x} f r) = (some_class x _ f.is, no_end _ q _ rest _ r)

-- tokens of a source have one end, the last
pub has_end : (bytes : List ℕ) (ts : List Lexeme) → Lexes bytes ts → HasEnd language ts
has_end bytes ts x = record { body = x.before; end = lexeme_at x.end t.End 0; split = x.last; real = no_end _ x.end bytes [] x.before x.reaches; ends = refl }
