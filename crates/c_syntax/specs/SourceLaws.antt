-- What holds of sources as they are read: the answer is exact, and there is one.
use Rattle.std.specs.Prelude.{◌≡◌, ℕ, ◌≤◌, Bool, true, false, cond, ◌==◌, List, [], ◌++◌, take, Result, Ok, Err}
use Rattle.std.proofs.Common.{refl, ap, sym, ◌∙◌, arith}
use Rattle.c_syntax.specs.declared.token.Span.{Span}
use Rattle.std.proofs.Math.Seq.{take-append_seam}
use Rattle.std.proofs.lemmas.List.{length-append}
use Rattle.ebnf.specs.Derives.{next}
use Rattle.ebnf.specs.Reading.{Out}
use Rattle.ebnf.specs.Tools.{eq_true, true_eq, true_not_false}
use Rattle.ebnf.specs.Verdict.{HasEnd, IsVerdict}
use Rattle.c_syntax.specs.Lexing.{Lexeme}
use Rattle.c_syntax.specs.Items.{Item}
use Rattle.c_syntax.specs.Grammar.{Program}
use Rattle.c_syntax.specs.Language.{language}
use Rattle.c_syntax.specs.Laws.{read_items, room, answer, one_first_fault, no_first_fault}
use Rattle.c_syntax.specs.Faults.{SyntaxFault, IsSource, none, some, IsSyntaxFault, fault_of, front_of, first_token, named, read_source}

-- items no higher than room, or the first fault
abbrev pub IsAnswer : List Lexeme → Result (List Item × ℕ) (SyntaxFault × Span) → Type 0
IsAnswer ts (Ok p) = IsSource ts p.0 p.1 × (p.1 ≤ room)
IsAnswer ts (Err e) = IsSyntaxFault ts e.0 e.1

front_is : (front rest : List Lexeme) → front_of (front ++ rest) rest ≡ front
front_is front rest = ap (λ n. take n (front ++ rest)) (omega (arith, length-append front rest)) ∙ take-append_seam front rest

pub read_is_answer : (ts : List Lexeme) → HasEnd language ts → IsAnswer ts (read_source ts)
read_is_answer ts e = go (next language ts == 0) refl
  where
    other : (next language ts == 0) ≡ false → (out : Out language (List Item)) → IsVerdict language Program room ts out → IsAnswer ts (named ts out)
    other some' (Ok p) v = (some v.0, v.1)
    other some' (Err f) v = record {
      kind = f.0;
      rest = f.1;
      first = v;
      some = some';
      is = ap (λ xs. fault_of f.0 xs (first_token f.1)) (ap (λ us. front_of us f.1) v.split ∙ front_is v.front f.1) ∙ ap (λ xs. fault_of f.0 v.front (first_token xs)) v.place;
      here = ap (λ xs. (first_token xs).place) v.place;
    }

    go : (b : Bool) → (next language ts == 0) ≡ b → IsAnswer ts (cond b (Ok ([], 0)) (named ts (read_items ts)))
    go true q = (none (eq_true _ _ q) refl refl, omega (arith))
    go false q = other q (read_items ts) (answer ts e)

-- a fault is known from the tokens that are left
shown : (ts : List Lexeme) (f : SyntaxFault) (place : Span) → (x : IsSyntaxFault ts f place) → (f ≡ fault_of x.kind (front_of ts x.rest) (first_token x.rest)) × (place ≡ (first_token x.rest).place)
shown ts f place x =
    (x.is ∙ ap (λ us. fault_of x.kind us x.first.token) (sym (ap (λ us. front_of us x.rest) x.first.split ∙ front_is x.first.front x.rest)) ∙ ap (λ us. fault_of x.kind (front_of ts x.rest) (first_token us)) (sym x.first.place), x.here ∙ ap (λ us. (first_token us).place) (sym x.first.place))

-- tokens have one syntax fault
pub one_syntax_fault : (ts : List Lexeme) (f g : SyntaxFault) (at_ to : Span) → IsSyntaxFault ts f at_ → IsSyntaxFault ts g to → (f ≡ g) × (at_ ≡ to)
one_syntax_fault ts f g at_ to x y =
    let o = one_first_fault ts x.kind y.kind x.rest y.rest x.first y.first in
    let a = shown ts f at_ x in
    let b = shown ts g to y in
    (a.0 ∙ ap (λ k. fault_of k (front_of ts x.rest) (first_token x.rest)) o.0 ∙ ap (λ r. fault_of y.kind (front_of ts r) (first_token r)) o.1 ∙ sym b.0, a.1 ∙ ap (λ r. (first_token r).place) o.1 ∙ sym b.1)

-- a source that is low enough has none
pub no_syntax_fault : (ts : List Lexeme) (items : List Item) (h : ℕ) (f : SyntaxFault) (place : Span) → IsSource ts items h → h ≤ room → IsSyntaxFault ts f place → ⊥
no_syntax_fault ts items h f place (none z e k) le x = absurd (not_both ts z x.some)
  where
    not_both : (ts : List Lexeme) → next language ts ≡ 0 → (next language ts == 0) ≡ false → ⊥
    not_both ts z s = true_not_false _ (true_eq _ _ z) s
no_syntax_fault ts items h f place (some p) le x = no_first_fault ts items h x.kind x.rest p le x.first
