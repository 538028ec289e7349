-- Names that stand in expressions: where a name was written plays no part.
use Rattle.std.proofs.Common.{◌≡◌, ℕ, suc, ◌+◌, ◌<◌, ◌≤◌, refl, sym, ◌∙◌, ap, append-nil, append_assoc, add-one, Bool, true, false, not, ◌&&◌, ◌||◌, List, [], ◌∷◌, ◌++◌, Bor, drop, get_or, length}
use Rattle.std.specs.Prelude.{if◌then◌else◌}
use Rattle.std.specs.List.{list_any}
use Rattle.std.specs.Str.{bytes_eq}
use Rattle.c_syntax.specs.declared.expressions.Identifier.{Identifier}
use Rattle.c_syntax.specs.Expressions as e
use Rattle.c_syntax.specs.Expressions.{Id, Exp, Exps}
use Rattle.c_syntax.specs.Views as view
use Rattle.typing_spec.specs.Trees.{mentions, any_mentions}
use Rattle.typing_expressions.proofs.Rows.{drop_at}
use Rattle.elab_code.specs.Names.{texts}
use Rattle.typed_program.specs.Sites.{named}
use Rattle.elab_sites.proofs.Added.{dropped}

either : {a b c d : Bool} → a ≡ c → b ≡ d → (a || b) ≡ (c || d)
either p q = λ i. p i || q i

bound : {a b c d : Bool} → a ≡ c → b ≡ d → (not a && b) ≡ (not c && d)
bound p q = λ i. not (p i) && q i

mutual
  by_text : (n m : Id) → n.name ≡ m.name → (x : Exp) → mentions n x ≡ mentions m x
  by_text n m h (e.Number p v ty) = refl
  by_text n m h (e.Name x) = ap (λ (w : List ℕ). bytes_eq w x.name) h
  by_text n m h (e.Null p) = refl
  by_text n m h (e.Word p x) = refl
  by_text n m h (e.Group p x) = by_text n m h x
  by_text n m h (e.Field p x y) = by_text n m h x
  by_text n m h (e.State p x r s) = by_text n m h x
  by_text n m h (e.Owns p x r) = by_text n m h x
  by_text n m h (e.Unary p o x) = by_text n m h x
  by_text n m h (e.Binary p o x y) = either (by_text n m h x) (by_text n m h y)
  by_text n m h (e.Conditional p x y z) = either (by_text n m h x) (either (by_text n m h y) (by_text n m h z))
  by_text n m h (e.Apply p g x) = by_text n m h x
  by_text n m h (e.Several p w xs) = any_by_text n m h xs
  by_text n m h (e.ClaimsObject p x y) = either (by_text n m h x) (by_text n m h y)
  by_text n m h (e.Claims p x y) = either (by_text n m h x) (by_text n m h y)
  by_text n m h (e.Approves p x) = refl
  by_text n m h (e.Quantified p k ty x y) = bound (ap (λ (w : List ℕ). bytes_eq w x.name) h) (by_text n m h y)

  any_by_text : (n m : Id) → n.name ≡ m.name → (xs : Exps) → any_mentions n xs ≡ any_mentions m xs
  any_by_text n m h e.Stop = refl
  any_by_text n m h (e.With x xs) = either (by_text n m h x) (any_by_text n m h xs)

-- a name with this text
abbrev plain : List ℕ → Id
plain n = record { place = record { line = 0; column = 0 }; name = n }

-- one is added, if it stands there
chosen : (b : Bool) (i : ℕ) (before after rest : List ℕ) → after ≡ (if b then before ++ i ∷ [] else before) → after ++ rest ≡ before ++ (if b then i ∷ rest else rest)
chosen true i before after rest h = ap (λ (zs : List ℕ). zs ++ rest) h ∙ append_assoc before (i ∷ []) rest
chosen false i before after rest h = ap (λ (zs : List ℕ). zs ++ rest) h

pub named_next : (names : List (Bor Identifier)) (i : ℕ) (n : Bor Identifier) (xs : List Exp) (b : Bool) (before after : List ℕ) → i < length names → n ≡ get_or names i n → b ≡ list_any (mentions (view.id n.now)) xs
    → after ≡ (if b then before ++ i ∷ [] else before) → before ++ named i (texts (drop i names)) xs ≡ named 0 (texts names) xs → after ++ named (i + 1) (texts (drop (i + 1) names)) xs ≡ named 0 (texts names) xs
named_next names i n xs b before after lt is stands added so_far =
    let text = n.now.name.items in
    let rest = texts (drop (i + 1) names) in
    let same : b ≡ list_any (mentions (plain text)) xs = stands ∙ (λ j. list_any (λ x. by_text (view.id n.now) (plain text) refl x j) xs) in
    let later = named (suc i) rest xs in
    ap (λ (k : ℕ). after ++ named k rest xs) (add-one i)
    ∙ (chosen b i before after later added
    ∙ (ap (λ (w : Bool). before ++ (if w then i ∷ later else later)) same
    ∙ (ap (λ (ns : List (Bor Identifier)). before ++ named i (texts ns) xs) (sym (drop_at names i n lt is)) ∙ so_far)))

pub named_all : (names : List (Bor Identifier)) (i : ℕ) (xs : List Exp) (now : List ℕ) → length names ≤ i → now ++ named i (texts (drop i names)) xs ≡ named 0 (texts names) xs → now ≡ named 0 (texts names) xs
named_all names i xs now h so_far =
    sym (append-nil now) ∙ (ap (λ (ns : List (Bor Identifier)). now ++ named i (texts ns) xs) (sym (dropped names i h)) ∙ so_far)
