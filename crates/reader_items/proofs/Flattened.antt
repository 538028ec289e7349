-- Lists of attributes one behind the other, put together into one.
use Rattle.std.proofs.Common.{◌≡◌, ℕ, ◌<◌, max, true, false, List, [], ◌∷◌, ◌++◌, length, Ok, Err, refl, ap, sym, ◌∙◌, subst, arith, append_assoc}
use Rattle.std.specs.Prelude.{◌==◌}
use Rattle.std.proofs.lemmas.List.{append-nil, length-map}
use Rattle.ebnf.specs.Sets.{has, first, low, more, is_empty, is_predictive}
use Rattle.ebnf.specs.Derives.{next}
use Rattle.ebnf.specs.Reading.{Out, on, read}
use Rattle.c_syntax.specs.declared.token.Token.{Token}
use Rattle.c_syntax.specs.declared.token.Sign.TheVariants as s
use Rattle.c_syntax.specs.declared.tree.Attribute.{Attribute}
use Rattle.c_syntax.specs.Classes.{sign}
use Rattle.c_syntax.specs.Lexing.{Lexeme, lexeme}
use Rattle.c_syntax.specs.Language.{language}
use Rattle.c_syntax.specs.Grammar as g
use Rattle.c_syntax.specs.Grammar.{concat}
use Rattle.reader_expressions.specs.declared.reading.ReadFault.{ReadFault}
use Rattle.reader_expressions.specs.declared.reading.ReadFault.TheVariants as f
use Rattle.reader_expressions.specs.Reading.{Gives, lexemes, part, entered, extended, through}
use Rattle.reader_expressions.specs.Lists.{repeated}
use Rattle.reader_expressions.proofs.Takes.{takes}
use Rattle.reader_expressions.proofs.Many as many
use Rattle.reader_assignments.proofs.Repeats.{one_class}
use Rattle.reader_items.specs.Rows.{alone, further_attribute, more_lists, attributes}

-- one token tells how a further attribute goes on
pub fine_attribute : is_predictive language further_attribute ≡ true
unfolding is_predictive is_empty more first low
fine_attribute = refl

-- a list of attributes begins with `_(`
pub begins_list : (c : ℕ) → has (first language g.attribute_list) c ≡ (c == sign s.Annotation)
unfolding first is_empty
begins_list c = one_class (sign s.Annotation) c

-- one token tells how it goes on
fine_list : is_predictive language g.attribute_list ≡ true
unfolding is_predictive is_empty more first low
fine_list = refl

-- it isn't empty
some_list : is_empty language g.attribute_list ≡ false
unfolding is_empty
some_list = refl

-- the tokens behind what is read
abbrev following : Out language (List Attribute) → List Lexeme
following (Ok p) = p.2
following (Err e) = []

module _ (room : ℕ) where
  -- those found, and those of the lists behind
  abbrev pub gathered : List Attribute → ℕ → List Lexeme → Out language (List Attribute)
  gathered xs h ts = through xs h (part room more_lists ts)

  -- one list, where there is room
  abbrev one : List Lexeme → Out language (List Attribute)
  one ts = entered room g.attribute_list ts

  -- all lists from here on
  abbrev lists : List Lexeme → Out language (List (List Attribute))
  lists ts = repeated room g.attribute_list ts

  -- those found, and those of further lists
  abbrev put : List Attribute → List (List Attribute) → ℕ → List Lexeme → Out language (List Attribute)
  put xs xss h rest = Ok (xs ++ concat xss, h, rest)

  -- a list takes a token
  less : (ts : List Lexeme) (b : List Attribute) (h : ℕ) (rest : List Lexeme) → one ts ≡ Ok (b, h, rest) → length rest < length ts
  less = takes room g.attribute_list fine_list some_list

  -- a first list, and then those behind it
  pub whole : (ts : List Lexeme) → part room attributes ts ≡ on language (part room g.attribute_list ts) (λ xs h rest. gathered xs h rest)
  unfolding read
  whole ts = go (part room g.attribute_list ts)
    where
      inner : (xs : List Attribute) (h : ℕ) (out : Out language (List (List Attribute))) → on language (on language (on language out (λ bs j rest. Ok (bs, j, rest))) (λ bs j mid. on language {A = List (List Attribute) → List Attribute → List Attribute} (Ok ((λ more one. concat (one ∷ more)), 0, mid)) (λ f k rest. Ok (f bs, max j k, rest)))) (λ f j rest. Ok (f xs, max h j, rest)) ≡ through xs h (on language out (λ bs i rest. Ok (concat bs, i, rest)))
      inner xs h (Ok q) = let z : max h (max q.1 0) ≡ max h q.1 = omega arith in ap (λ k. Ok (xs ++ concat q.0, k, q.2)) z
      inner xs h (Err x) = refl

      go : (o : Out language (List Attribute)) → on language o (λ b i mid. on language (on language (on language (lists mid) (λ bs j rest. Ok (bs, j, rest))) (λ bs j mid. on language {A = List (List Attribute) → List Attribute → List Attribute} (Ok ((λ more one. concat (one ∷ more)), 0, mid)) (λ f k rest. Ok (f bs, max j k, rest)))) (λ f j rest. Ok (f b, max i j, rest))) ≡ on language o (λ xs h rest. gathered xs h rest)
      go (Ok p) = inner p.0 p.1 (lists p.2)
      go (Err x) = refl

  -- where the first list ends, all that follow are left
  pub start : (ts : List Lexeme) (xs : List Attribute) (h : ℕ) (mid : List Lexeme) → part room g.attribute_list ts ≡ Ok (xs, h, mid) → gathered xs h mid ≡ part room attributes ts
  start ts xs h mid e = sym (whole ts ∙ ap (λ o. on language o (λ xs h rest. gathered xs h rest)) e)

  -- the lists that follow, one by one
  gathered_is : (xs : List Attribute) (h : ℕ) (ts : List Lexeme) → gathered xs h ts ≡ on language (through [] h (lists ts)) (put xs)
  unfolding read
  gathered_is xs h ts = go (lists ts)
    where
      go : (out : Out language (List (List Attribute))) → through xs h (on language out (λ bs i rest. Ok (concat bs, i, rest))) ≡ on language (through [] h out) (put xs)
      go (Ok q) = refl
      go (Err x) = refl

  -- one list found, and then those behind it
  next_is : (xs bs : List Attribute) (k : ℕ) (ts : List Lexeme) → on language (through (bs ∷ []) k (lists ts)) (put xs) ≡ gathered (xs ++ bs) k ts
  next_is xs bs k ts = go (lists ts) ∙ sym (gathered_is (xs ++ bs) k ts)
    where
      go : (out : Out language (List (List Attribute))) → on language (through (bs ∷ []) k out) (put xs) ≡ on language (through [] k out) (put (xs ++ bs))
      go (Ok q) = ap (λ ys. Ok (ys, max k q.1, q.2)) (sym (append_assoc xs bs (concat q.0)))
      go (Err x) = refl

  -- no list follows
  pub stop : (xs : List Attribute) (h : ℕ) (ts : List Lexeme) (out : Out language (List Attribute)) → has (first language g.attribute_list) (next language ts) ≡ false → gathered xs h ts ≡ out → out ≡ Ok (xs, h, ts)
  stop xs h ts out e same = sym same ∙ gathered_is xs h ts ∙ ap (λ o. on language o (put xs)) (many.stop one (first language g.attribute_list) less [] h ts e) ∙ ap (λ ys. Ok (ys, h, ts)) (append-nil xs)

  -- one list more
  pub goes : (xs : List Attribute) (h : ℕ) (ts : List Lexeme) (ys : List Attribute) (k : ℕ) (mid : List Lexeme) (out : Out language (List Attribute)) → has (first language g.attribute_list) (next language ts) ≡ true → through xs h (one ts) ≡ Ok (ys, k, mid) → gathered xs h ts ≡ out → gathered ys k mid ≡ out
  goes xs h ts ys k mid out e q same = sym (go (one ts) refl q) ∙ same
    where
      go : (o : Out language (List Attribute)) → one ts ≡ o → through xs h o ≡ Ok (ys, k, mid) → gathered xs h ts ≡ gathered ys k mid
      go (Ok p) d q = gathered_is xs h ts ∙ ap (λ o. on language o (put xs)) (many.goes one (first language g.attribute_list) less [] h ts (p.0 ∷ []) (max h p.1) p.2 e (ap (extended [] h) d)) ∙ next_is xs p.0 (max h p.1) p.2 ∙ ap (λ o. on language o (λ xs i rest. gathered xs i rest)) q
      go (Err x) d q = absurd cc

  -- a fault of one list, as the repetition sees it
  same_fault : {X Y : Type 0} (v : X → List Attribute) (w : Y → List (List Attribute)) (xs : List Attribute) (h : ℕ) (e : ReadFault) (o : Out language (List Attribute)) → Gives {X = X} v (Err e) (through xs h o) → Gives {X = Y} w (Err e) (extended [] h o)
  same_fault v w xs h (f.Unexpected rest) (Ok p) q = absurd cc
  same_fault v w xs h (f.Unexpected rest) (Err x) q = ap (λ (o : Out language (List Attribute)). alone o) q
  same_fault v w xs h (f.TooDeep rest) (Ok p) q = absurd cc
  same_fault v w xs h (f.TooDeep rest) (Err x) q = ap (λ (o : Out language (List Attribute)). alone o) q
  same_fault v w xs h f.OutOfMemory o q = tt

  -- a fault of one list is one of all
  pub fails : {X Y : Type 0} (v : X → List Attribute) (w : Y → List Attribute) (xs : List Attribute) (h : ℕ) (ts : List Lexeme) (e : ReadFault) (out : Out language (List Attribute)) → has (first language g.attribute_list) (next language ts) ≡ true → Gives {X = X} v (Err e) (through xs h (one ts)) → gathered xs h ts ≡ out → Gives {X = Y} w (Err e) out
  fails v w xs h ts e out q gives same = many.fails one (first language g.attribute_list) less (λ (x : List (List Attribute)). x) w [] h ts e out (put xs) q (same_fault v (λ (x : List (List Attribute)). x) xs h e (one ts) gives) (sym (gathered_is xs h ts) ∙ same)

  -- one list more leaves fewer tokens
  pub shorter : (xs : List Attribute) (h : ℕ) (ts us : List Token) (ys : List Attribute) (k : ℕ) → through xs h (one (lexemes ts)) ≡ Ok (ys, k, lexemes us) → length us < length ts
  shorter xs h ts us ys k q = go (one (lexemes ts)) refl q
    where
      go : (o : Out language (List Attribute)) → one (lexemes ts) ≡ o → through xs h o ≡ Ok (ys, k, lexemes us) → length us < length ts
      go (Ok p) d q =
          let same : p.2 ≡ lexemes us = ap following q in
          let lt : length (lexemes us) < length (lexemes ts) = subst (λ (z : List Lexeme). length z < length (lexemes ts)) same (less (lexemes ts) p.0 p.1 p.2 d) in
          let a = length-map ts lexeme in let b = length-map us lexeme in omega (arith, lt, a, b)
      go (Err x) d q = absurd cc
