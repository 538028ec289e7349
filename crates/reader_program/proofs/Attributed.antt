-- A struct with attributes: the lists of attributes as one, and then the struct.
use Rattle.std.proofs.Common.{◌≡◌, ℕ, max, List, ◌∷◌, Ok, Err, refl, ap, ◌∙◌, arith}
use Rattle.ebnf.specs.Rules.{row, nothing, many}
use Rattle.ebnf.specs.Reading.{Out, on, read}
use Rattle.c_syntax.specs.declared.token.Keyword.TheVariants as k
use Rattle.c_syntax.specs.declared.tree.Attribute.{Attribute}
use Rattle.c_syntax.specs.Classes.{key}
use Rattle.c_syntax.specs.Items as i
use Rattle.c_syntax.specs.Items.{Item}
use Rattle.c_syntax.specs.Lexing.{Lexeme}
use Rattle.c_syntax.specs.Language.{language}
use Rattle.c_syntax.specs.Grammar as g
use Rattle.c_syntax.specs.Grammar.{P, ◌▷◌, word, name, concat}
use Rattle.reader_expressions.specs.Reading.{part}
use Rattle.reader_assignments.proofs.Parts.{row_read}
use Rattle.reader_items.specs.Rows.{attributes}
use Rattle.reader_program.specs.Rows.{named_struct, listed_struct, attributed, attributes_and_struct}

-- a value with what is read behind it
abbrev applied : {A B : Type 0} → Out language (A → B) → A → ℕ → Out language B
applied out a i = on language out (λ f j rest. Ok (f a, max i j, rest))

-- something else made of what is read
abbrev mapped : {A B : Type 0} → (A → B) → Out language A → Out language B
mapped h out = on language out (λ x i rest. Ok (h x, i, rest))

-- the second part reads what the first does, and makes something else of it
abbrev Mapped : {A B : Type 0} → ℕ → (A → B) → P A → P B → Type 0
Mapped room h p q = (ts : List Lexeme) → part room q ts ≡ mapped h (part room p ts)

-- no token, and another value
nothing_mapped : {A B : Type 0} (room : ℕ) (h : A → B) (a : A) → Mapped room h (nothing a) (nothing (h a))
unfolding read
nothing_mapped room h a ts = refl

-- a part, and then one that makes something else of it
row_mapped : {A B C : Type 0} (room : ℕ) (h : B → C) (p : P A) (q : P (A → B)) (r : P (A → C)) → Mapped {A = A → B} {B = A → C} room (λ f x. h (f x)) q r → Mapped room h (row p q) (row p r)
unfolding read
row_mapped {A} {B} {C} room h p q r same ts = go (part room p ts)
  where
    inner : (a : A) (i : ℕ) (out : Out language (A → B)) → applied (mapped {A = A → B} {B = A → C} (λ f x. h (f x)) out) a i ≡ mapped h (applied out a i)
    inner a i (Ok p) = refl
    inner a i (Err e) = refl

    go : (out : Out language A) → on language out (λ b i mid. applied (part room r mid) b i) ≡ mapped h (on language out (λ b i mid. applied (part room q mid) b i))
    go (Ok p) = ap (λ (o : Out language (A → C)). applied o p.0 p.1) (same p.2) ∙ inner p.0 p.1 (part room q p.2)
    go (Err e) = refl

-- what a first list of attributes and the further ones give
abbrev gather : (List Attribute → Item) → List (List Attribute) → List Attribute → Item
gather f more one = f (concat (one ∷ more))

-- a first list of attributes and the further ones, as one
abbrev put : List (List Attribute) → List Attribute → List Attribute
put more one = concat (one ∷ more)

module _ (room : ℕ) where
  -- the struct, as what it makes of one list and as what it makes of several
  struct_mapped : Mapped room gather named_struct listed_struct
  struct_mapped =
      row_mapped room gather (word (key k.Struct)) (name ▷ g.struct_tail ▷ nothing (λ f n p as'. i.Struct (f n p as'))) (name ▷ g.struct_tail ▷ nothing (λ f n p more one. i.Struct (f n p (concat (one ∷ more)))))
      (row_mapped room (λ f p. gather (f p)) name (g.struct_tail ▷ nothing (λ f n p as'. i.Struct (f n p as'))) (g.struct_tail ▷ nothing (λ f n p more one. i.Struct (f n p (concat (one ∷ more)))))
      (row_mapped room (λ f n p. gather (f n p)) g.struct_tail (nothing (λ f n p as'. i.Struct (f n p as'))) (nothing (λ f n p more one. i.Struct (f n p (concat (one ∷ more)))))
      (nothing_mapped room (λ f b n p. gather (f b n p)) (λ f n p as'. i.Struct (f n p as')))))

  -- the further lists of attributes
  abbrev further : List Lexeme → Out language (List (List Attribute))
  further ts = part room (many g.attribute_list (λ xs. xs)) ts

  -- the same, as what they make of a first list
  abbrev joined : Out language (List (List Attribute)) → Out language (List Attribute → List Attribute)
  joined out = on language out (λ more j mid. applied {A = List (List Attribute)} {B = List Attribute → List Attribute} (Ok (put, 0, mid)) more j)

  -- both ways read the same
  same : (ts : List Lexeme) → part room attributed ts ≡ part room attributes_and_struct ts
  unfolding read
  same ts = go (part room g.attribute_list ts)
    where
      inmost : (one : List Attribute) (i : ℕ) (more : List (List Attribute)) (j : ℕ) (out : Out language (List Attribute → Item)) → applied (applied (mapped gather out) more j) one i ≡ applied out (concat (one ∷ more)) (max i (max j 0))
      inmost one i more j (Ok p) = let z : max i (max j p.1) ≡ max (max i (max j 0)) p.1 = omega arith in ap (λ h. Ok (p.0 (concat (one ∷ more)), h, p.2)) z
      inmost one i more j (Err e) = refl

      inner : (one : List Attribute) (i : ℕ) (out : Out language (List (List Attribute))) → applied (on language out (λ more j mid. applied (part room listed_struct mid) more j)) one i ≡ on language (applied (joined out) one i) (λ b i mid. applied (part room named_struct mid) b i)
      inner one i (Ok q) = ap (λ (o : Out language (List (List Attribute) → List Attribute → Item)). applied (applied o q.0 q.1) one i) (struct_mapped q.2) ∙ inmost one i q.0 q.1 (part room named_struct q.2)
      inner one i (Err e) = refl

      go : (out : Out language (List Attribute)) → on language out (λ one i mid. applied (on language (further mid) (λ more j rest. applied (part room listed_struct rest) more j)) one i) ≡ on language (on language out (λ one i mid. applied (joined (further mid)) one i)) (λ b i mid. applied (part room named_struct mid) b i)
      go (Ok p) = inner p.0 p.1 (further p.2)
      go (Err e) = refl

  -- a struct with attributes is its attributes, and then the struct
  pub parts_read : (ts : List Lexeme) → part room attributed ts ≡ on language (part room attributes ts) (λ b i mid. on language (part room named_struct mid) (λ f j rest. Ok (f b, max i j, rest)))
  parts_read ts = same ts ∙ row_read room attributes named_struct ts
