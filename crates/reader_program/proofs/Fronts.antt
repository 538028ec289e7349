-- The tokens in front of a fault.
use Rattle.std.proofs.Common.{◌≡◌, ℕ, zero, suc, ◌-◌, ◌==◌, Bool, List, [], ◌∷◌, ◌++◌, length, take, map, refl, ap, sym, ◌∙◌}
use Rattle.std.proofs.lemmas.List.{length-map}
use Rattle.c_syntax.specs.declared.token.Token.{Token}
use Rattle.c_syntax.specs.declared.token.Sign.TheVariants as s
use Rattle.c_syntax.specs.Classes.{class, sign}
use Rattle.c_syntax.specs.Lexing.{Lexeme, lexeme}
use Rattle.c_syntax.specs.Faults.{ends_with_annotation, front_of}
use Rattle.c_source.proofs.Unique.{last_same}
use Rattle.reader_expressions.specs.Reading.{lexemes}

ends_behind : (before : List Lexeme) (last : Lexeme) → ends_with_annotation (before ++ last ∷ []) ≡ (class last == sign s.Annotation)
ends_behind [] last = refl
ends_behind (x ∷ []) last = refl
ends_behind (x ∷ y ∷ before) last = ends_behind (y ∷ before) last

map_append : {X Y : Type 0} (f : X → Y) (xs ys : List X) → map f (xs ++ ys) ≡ map f xs ++ map f ys
map_append f [] ys = refl
map_append f (x ∷ xs) ys = ap (λ zs. f x ∷ zs) (map_append f xs ys)

-- what the last token is
pub ends_at : (tokens before : List Token) (last : Token) → tokens ≡ before ++ last ∷ [] → ends_with_annotation (lexemes tokens) ≡ (class (lexeme last) == sign s.Annotation)
ends_at tokens before last e = ap (λ (xs : List Token). ends_with_annotation (lexemes xs)) e ∙ ap ends_with_annotation (map_append lexeme before (last ∷ [])) ∙ ends_behind (lexemes before) (lexeme last)

take_map : {X Y : Type 0} (f : X → Y) (n : ℕ) (xs : List X) → take n (map f xs) ≡ map f (take n xs)
take_map f zero xs = refl
take_map f (suc n) [] = refl
take_map f (suc n) (x ∷ xs) = ap (λ ys. f x ∷ ys) (take_map f n xs)

-- the tokens before the rest
pub front_is : (tokens rest : List Token) → front_of (lexemes tokens) (lexemes rest) ≡ lexemes (take (length tokens - length rest) tokens)
front_is tokens rest = rw (length-map tokens lexeme, length-map rest lexeme) (take_map lexeme (length tokens - length rest) tokens)

-- the place of the last token
pub last_is : (tokens front : List Token) (token : Token) (before : List Lexeme) (last : Lexeme) → tokens ≡ front ++ token ∷ [] → lexemes tokens ≡ before ++ last ∷ [] → token.span ≡ last.place
last_is tokens front token before last e f = ap (λ (l : Lexeme). l.place) (last_same (lexemes front) before (lexeme token) last (sym (map_append lexeme front (token ∷ [])) ∙ sym (ap lexemes e) ∙ f))

not_nil : {X : Type 0} (a : List X) (x : X) → [] ≡ a ++ x ∷ [] → ⊥
not_nil [] x e = cc
not_nil (v ∷ a) x e = cc

pub none_last : (tokens : List Token) (before : List Lexeme) (last : Lexeme) → tokens ≡ [] → lexemes tokens ≡ before ++ last ∷ [] → ⊥
none_last tokens before last e f = not_nil before last (sym (ap lexemes e) ∙ f)
