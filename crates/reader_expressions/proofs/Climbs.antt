-- Arrows up to the owned set, one by one.
use Rattle.std.proofs.Common.{◌≡◌, ℕ, zero, suc, ◌+◌, ◌-◌, ◌<◌, ◌≤◌, max, nat_le, Bool, true, false, cond, List, [], ◌∷◌, Result, Ok, Err, refl, ap, sym, ◌∙◌, subst, arith}
use Rattle.std.specs.Prelude.{◌==◌, ◌&&◌}
use Rattle.ebnf.specs.Sets.{has, first}
use Rattle.ebnf.specs.Derives.{next}
use Rattle.ebnf.specs.Reading.{Out, Unexpected, TooDeep, on, take, read, reads, climbs}
use Rattle.ebnf.specs.Rules.{nothing}
use Rattle.c_syntax.specs.declared.token.Span.{Span}
use Rattle.c_syntax.specs.Lexing.{Lexeme}
use Rattle.c_syntax.specs.Expressions.{Exp}
use Rattle.c_syntax.specs.Grammar as g
use Rattle.c_syntax.specs.Language.{language}
use Rattle.reader_expressions.specs.declared.reading.Parsed.{Parsed}
use Rattle.reader_expressions.specs.declared.reading.ReadFault.{ReadFault}
use Rattle.reader_expressions.specs.declared.reading.ReadFault.TheVariants as f
use Rattle.reader_expressions.specs.Reading.{Gives, part}
use Rattle.reader_expressions.specs.Suffixes.{arrow, more, last, goes_on, step, end, climbed}

one : (n room : ℕ) (l : Exp) (k : ℕ) (ts : List Lexeme) → climbed (suc n) room l k ts ≡ cond (goes_on ts) (on language (step room l k ts) (λ l' k' rest. climbed n room l' k' rest)) (end room l k ts)
unfolding climbs
one n room l k [] = refl
one n room l k (x ∷ mid) = go (language.class x == arrow)
  where
    inner : (b fits : Bool) (out : Out language (Lexeme → Exp → Exp)) (z : Out language Exp) → cond b (cond fits (on language out (λ f i rest. climbed n room (f x l) (suc (max k i)) rest)) (Err (TooDeep, mid))) z
        ≡ cond b (on language (cond fits (on language out (λ f j rest. Ok (f x l, suc (max k j), rest))) (Err (TooDeep, mid))) (λ l' k' rest. climbed n room l' k' rest)) z
    inner true true (Ok p) z = refl
    inner true true (Err e) z = refl
    inner true false out z = refl
    inner false fits out z = refl

    taken : Bool → Out language Lexeme
    taken a = cond a (Ok (x, 0, mid)) (Err (Unexpected, x ∷ mid))

    go : (a : Bool) → on language (taken a) (λ y i us. cond (has (first language more) (next language us)) (cond (nat_le (suc (max k 1)) room) (on language (part room more us) (λ f i rest. climbed n room (f y l) (suc (max k i)) rest)) (Err (TooDeep, us))) (on language (part room last us) (λ f i rest. Ok (f y l, suc (max k i), rest))))
        ≡ cond (a && has (first language more) (next language mid)) (on language (on language (taken a) (λ y i us. cond (nat_le (suc (max k 1)) room) (on language (part room more us) (λ f j rest. Ok (f y l, suc (max k j), rest))) (Err (TooDeep, us)))) (λ l' k' rest. climbed n room l' k' rest)) (on language (taken a) (λ y i us. on language (part room last us) (λ f j rest. Ok (f y l, suc (max k j), rest))))
    go true = inner (has (first language more) (next language mid)) (nat_le (suc (max k 1)) room) (part room more mid) (on language (part room last mid) (λ f j rest. Ok (f x l, suc (max k j), rest)))
    go false = refl

after : (m room : ℕ) (l : Exp) (k : ℕ) (ts : List Lexeme) → goes_on ts ≡ true → climbed (suc m) room l k ts ≡ on language (step room l k ts) (λ l' k' rest. climbed m room l' k' rest)
after m room l k ts h = one m room l k ts ∙ rw h refl

pub ends : (n m room : ℕ) (l : Exp) (k : ℕ) (ts : List Lexeme) (out : Out language Exp) → n ≡ suc m → goes_on ts ≡ false → climbed n room l k ts ≡ out → out ≡ end room l k ts
ends n m room l k ts out z h e = sym e ∙ ap (λ i. climbed i room l k ts) z ∙ one m room l k ts ∙ rw h refl

pub goes : (n m room : ℕ) (l : Exp) (k : ℕ) (ts : List Lexeme) (l' : Exp) (k' : ℕ) (ts' : List Lexeme) (out : Out language Exp) → n ≡ suc m → goes_on ts ≡ true → step room l k ts ≡ Ok (l', k', ts') → climbed n room l k ts ≡ out → climbed m room l' k' ts' ≡ out
goes n m room l k ts l' k' ts' out z h g e = ap (λ o. on language o (λ l' k' rest. climbed m room l' k' rest)) (sym g) ∙ sym (after m room l k ts h) ∙ ap (λ i. climbed i room l k ts) (sym z) ∙ e

pub fails : {X Y : Type 0} (v : X → Exp) (w : Y → Exp) (n m room : ℕ) (l : Exp) (k : ℕ) (ts : List Lexeme) (e : ReadFault) (out : Out language Exp) → n ≡ suc m → goes_on ts ≡ true → Gives {X = X} v (Err e) (step room l k ts) → climbed n room l k ts ≡ out → Gives {X = Y} w (Err e) out
fails v w n m room l k ts (f.Unexpected rest) out z h g same = sym same ∙ ap (λ i. climbed i room l k ts) z ∙ after m room l k ts h ∙ ap (λ o. on language o (λ l' k' rest. climbed m room l' k' rest)) g
fails v w n m room l k ts (f.TooDeep rest) out z h g same = sym same ∙ ap (λ i. climbed i room l k ts) z ∙ after m room l k ts h ∙ ap (λ o. on language o (λ l' k' rest. climbed m room l' k' rest)) g
fails v w n m room l k ts f.OutOfMemory out z h g same = tt

pub over : (n room : ℕ) (l : Exp) (k : ℕ) (ts : List Lexeme) (out : Out language Exp) → n ≡ 0 → climbed n room l k ts ≡ out → out ≡ Err (Unexpected, ts)
unfolding climbs
over n room l k ts out z e = sym e ∙ ap (λ i. climbed i room l k ts) z

-- ---- what stands behind an arrow, with the arrow's token

high : (out : Out language (Lexeme → Exp → Exp)) (v : Lexeme → Exp → Exp) (h : ℕ) (rest : List Lexeme) → out ≡ Ok (v, max h 0, rest) → out ≡ Ok (v, h, rest)
high out v h rest e = let z : max h 0 ≡ h = omega arith in e ∙ ap (λ i. Ok (v, i, rest)) z

with_nothing : (room : ℕ) → (Span → Exp → Exp) → ℕ → List Lexeme → Out language (Lexeme → Exp → Exp)
with_nothing room b i mid = on language {A = (Span → Exp → Exp) → Lexeme → Exp → Exp} {B = Lexeme → Exp → Exp} (Ok ((λ f o l. f o.place l), 0, mid)) (λ f j rest. Ok (f b, max i j, rest))

more_is : (room : ℕ) (ts : List Lexeme) → part room more ts ≡ on language (part room (g.suffix g.InSpec) ts) (with_nothing room)
unfolding read with_nothing
more_is room ts = refl

pub more_ok : (room : ℕ) (ts : List Lexeme) (v : Span → Exp → Exp) (h : ℕ) (rest : List Lexeme) → part room (g.suffix g.InSpec) ts ≡ Ok (v, h, rest) → part room more ts ≡ Ok ((λ o l. v o.place l), h, rest)
unfolding with_nothing
more_ok room ts v h rest e = high (part room more ts) (λ o l. v o.place l) h rest (more_is room ts ∙ ap (λ o. on language o (with_nothing room)) e)

pub more_err : {X Y : Type 0} (v : X → Span → Exp → Exp) (w : Y → Lexeme → Exp → Exp) (room : ℕ) (ts : List Lexeme) (e : ReadFault) → Gives {X = X} v (Err e) (part room (g.suffix g.InSpec) ts) → Gives {X = Y} w (Err e) (part room more ts)
more_err v w room ts (f.Unexpected rest) e = more_is room ts ∙ ap (λ o. on language o (with_nothing room)) e
more_err v w room ts (f.TooDeep rest) e = more_is room ts ∙ ap (λ o. on language o (with_nothing room)) e
more_err v w room ts f.OutOfMemory e = tt

-- ---- the end

end_any : (room : ℕ) (l : Exp) (k : ℕ) (ts : List Lexeme) → end room l k ts ≡ end 0 l k ts
unfolding read
end_any room l k ts = refl

pub ends_gives : {X : Type 0} (v : X → Exp) (r : Result (Parsed X) ReadFault) (n m room : ℕ) (l : Exp) (k : ℕ) (ts : List Lexeme) (out : Out language Exp) → n ≡ suc m → goes_on ts ≡ false → climbed n room l k ts ≡ out → Gives v r (end 0 l k ts) → Gives v r out
ends_gives v r n m room l k ts out z h e g = subst (λ o. Gives v r o) (sym (ends n m room l k ts out z h e ∙ end_any room l k ts)) g
