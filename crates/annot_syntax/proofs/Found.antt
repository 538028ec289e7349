-- From what is read of an annotation at a place among tokens to what the answer says.
use Rattle.std.proofs.Common.{◌≡◌, ℕ, ◌+◌, ◌-◌, ◌<◌, ◌≤◌, ◌==◌, true, List, [], ◌∷◌, ◌++◌, length, drop, take, Err, refl, ap, sym, ◌∙◌, subst, arith}
use Rattle.std.proofs.lemmas.List.{length-append, length-map}
use Rattle.ebnf.specs.Derives.{next}
use Rattle.ebnf.specs.Reading.{Fault, Unexpected, TooDeep, Out}
use Rattle.ebnf.specs.Complete.{ok}
use Rattle.ebnf.specs.Refutes.{same_value, same_rest}
use Rattle.ebnf.specs.Tools.{eq_true}
use Rattle.ebnf.specs.Verdict.{HasEnd}
use Rattle.c_syntax.specs.declared.token.Span.{Span}
use Rattle.c_syntax.specs.declared.token.Token.{Token}
use Rattle.c_syntax.specs.declared.token.Sign.TheVariants as s
use Rattle.c_syntax.specs.Classes.{sign}
use Rattle.c_syntax.specs.Faults.{SyntaxFault, UnexpectedToken, UnknownForm, TooHigh, fault_of, front_of, first_token}
use Rattle.c_syntax.specs.Lexing.{Lexeme, lexeme}
use Rattle.c_syntax.specs.Language.{language}
use Rattle.c_syntax.specs.Readable.{readable}
use Rattle.c_source.specs.declared.fault.SourceFault.{SourceFault}
use Rattle.c_source.specs.declared.fault.SourceFault.TheVariants as f
use Rattle.reader_expressions.specs.Reading.{lexemes}
use Rattle.reader_program.specs.Faults.{IsSyntax, IsUnexpected}
use Rattle.reader_pieces.specs.declared.tree.Place.{Place}
use Rattle.reader_pieces.specs.Annotations.{Annot, annotation}
use Rattle.reader_pieces.specs.Shapes.{least_of, shape_at}
use Rattle.annot_syntax.specs.Annotations.{phrases, IsAnnotation, IsAnnotationFault, IsAnnotationFaultOrMemory, IsAnnotationOrMemory}
use Rattle.annot_syntax.proofs.Fronts.{from_on, have_end, place_behind}
use Rattle.annot_syntax.proofs.Standing.{Told}
use Rattle.annot_syntax.proofs.Shapes.{place_told, place_one, place_moves, place_deep}

-- ---- the tokens in front of a rest

take_front : (front rest : List Lexeme) → take (length front) (front ++ rest) ≡ front
take_front [] rest = refl
take_front (x ∷ front) rest = ap (λ xs. x ∷ xs) (take_front front rest)

pub front_is : (ts front rest : List Lexeme) → ts ≡ front ++ rest → front_of ts rest ≡ front
front_is ts front rest split =
    let total : length ts ≡ length front + length rest = ap length split ∙ length-append front rest in
    let count : length ts - length rest ≡ length front = omega (arith, total) in
    ap (λ n. take n ts) count ∙ ap (take (length front)) split ∙ take_front front rest

-- ---- of tokens

module _ (place : Place) (room : ℕ) (enough : least_of (annotation place) ≤ room) (ts : List Lexeme) (end : HasEnd language ts) where
  -- what is read stands there
  pub found : (a : Annot) (h : ℕ) (rest : List Lexeme) → shape_at room (annotation place) ts ≡ ok language a h rest → IsAnnotation place room ts a rest
  found a h rest is = (subst (λ (o : Out language Annot). Told (phrases (annotation place)) room ts o) is (place_told place room enough ts end)).0

  -- and nothing else
  pub only_found : (a : Annot) (h : ℕ) (rest : List Lexeme) → shape_at room (annotation place) ts ≡ ok language a h rest → (b : Annot) (k : ℕ) (late : List Lexeme) → phrases (annotation place) ts b k late → (b ≡ a) × (late ≡ rest)
  only_found a h rest is b k late d =
      let t = subst (λ (o : Out language Annot). Told (phrases (annotation place)) room ts o) is (place_told place room enough ts end) in
      let o = place_one place ts b a k h late rest d t.1 in
      (same_value language readable.good b a k h late rest o, same_rest language readable.good b a k h late rest o)

  -- a fault that is met is the first
  pub faulty : (kind : Fault) (rest : List Lexeme) → shape_at room (annotation place) ts ≡ Err (kind, rest) → IsAnnotationFault place room ts (fault_of kind (front_of ts rest) (first_token rest)) (first_token rest).place
  faulty kind rest is =
      let t = subst (λ (o : Out language Annot). Told (phrases (annotation place)) room ts o) is (place_told place room enough ts end) in
      let token_is : first_token rest ≡ t.1 = ap first_token t.4 in
      record {
        kind = kind;
        front = t.0;
        token = t.1;
        stop = t.5;
        is = ap (λ front. fault_of kind front (first_token rest)) (front_is ts t.0 rest t.3) ∙ ap (fault_of kind t.0) token_is;
        here = ap (λ (x : Lexeme). x.place) token_is;
      }

-- a fault of the syntax is the source's
pub of_syntax : (place : Place) (room : ℕ) (ts : List Lexeme) (x : SyntaxFault) (here : Span) (fault : SourceFault) → IsSyntax (x, here) fault → IsAnnotationFault place room ts x here → IsAnnotationFaultOrMemory place room ts fault
of_syntax place room ts UnexpectedToken here fault e x = subst (λ (y : SourceFault). IsAnnotationFaultOrMemory place room ts y) (sym e) x
of_syntax place room ts UnknownForm here fault e x = subst (λ (y : SourceFault). IsAnnotationFaultOrMemory place room ts y) (sym e) x
of_syntax place room ts TooHigh here fault e x = subst (λ (y : SourceFault). IsAnnotationFaultOrMemory place room ts y) (sym e) x

-- beside a fault no annotation stands that is low enough
pub none_beside : (place : Place) (room : ℕ) (all ts : List Lexeme) (fault : SourceFault) → IsAnnotationFaultOrMemory place room ts fault → (a : Annot) (h : ℕ) (rest : List Lexeme) → phrases (annotation place) ts a h rest → h ≤ room → IsAnnotationOrMemory all a rest (Err fault)
none_beside place room all ts (f.Unexpected p) x a h rest d low = x.stop.none a h rest d (λ k. low)
none_beside place room all ts (f.UnknownForm p) x a h rest d low = x.stop.none a h rest d (λ k. low)
none_beside place room all ts (f.TooDeep p) x a h rest d low = x.stop.none a h rest d (λ k. low)
none_beside place room all ts f.OutOfMemory x a h rest d low = tt
none_beside place room all ts (f.BadByte p) x a h rest d low = absurd x
none_beside place room all ts (f.BadNumber p) x a h rest d low = absurd x
none_beside place room all ts (f.OpenComment p) x a h rest d low = absurd x
none_beside place room all ts (f.TooManyTokens p) x a h rest d low = absurd x

-- where there is no room, the `_(` is too deep
pub no_room : (place : Place) (room : ℕ) → room < least_of (annotation place) → (ts : List Lexeme) → HasEnd language ts → (next language ts == sign s.Annotation) ≡ true → IsAnnotationFault place room ts TooHigh (first_token ts).place
no_room place room lt [] end h = absurd cc
no_room place room lt (t ∷ after) end h = record {
  kind = TooDeep;
  front = [];
  token = t;
  stop = place_deep place room lt t after end (eq_true _ _ h);
  is = refl;
  here = refl;
}

-- ---- from a place among tokens on

module _ (place : Place) (room : ℕ) (enough : least_of (annotation place) ≤ room) (tokens here : List Token) (at' : ℕ) (same : here ≡ drop at' tokens) (lt : at' < length tokens) (end : HasEnd language (lexemes tokens)) where
  abbrev pub ts : List Lexeme
  ts = drop at' (lexemes tokens)

  read_at : (out : Out language Annot) → shape_at room (annotation place) (lexemes here) ≡ out → shape_at room (annotation place) ts ≡ out
  read_at out is = ap (shape_at room (annotation place)) (sym (from_on tokens here at' same)) ∙ is

  ended : HasEnd language ts
  ended = have_end tokens at' end lt

  following : (rest : List Token) (n : ℕ) (a : Annot) → n ≡ length tokens - length rest → IsAnnotation place room ts a (lexemes rest) → drop n (lexemes tokens) ≡ lexemes rest
  following rest n a count x =
      let m = place_moves place ts a x.high (lexemes rest) x.is in
      let few : at' < length (lexemes tokens) = rw (length-map tokens lexeme) lt in
      ap (λ k. drop k (lexemes tokens)) (count ∙ sym (rw (length-map tokens lexeme, length-map rest lexeme) refl)) ∙ place_behind (lexemes tokens) m.0 (lexemes rest) at' few m.1

  pub found_at : (rest : List Token) (h n : ℕ) (a : Annot) → n ≡ length tokens - length rest → shape_at room (annotation place) (lexemes here) ≡ ok language a h (lexemes rest) → IsAnnotation place room ts a (drop n (lexemes tokens))
  found_at rest h n a count is =
      let x = found place room enough ts ended a h (lexemes rest) (read_at (ok language a h (lexemes rest)) is) in
      subst (λ (us : List Lexeme). IsAnnotation place room ts a us) (sym (following rest n a count x)) x

  pub only_at : (rest : List Token) (h n : ℕ) (a : Annot) → n ≡ length tokens - length rest → shape_at room (annotation place) (lexemes here) ≡ ok language a h (lexemes rest) → (b : Annot) (k : ℕ) (late : List Lexeme) → phrases (annotation place) ts b k late → k ≤ room → (b ≡ a) × (late ≡ drop n (lexemes tokens))
  only_at rest h n a count is b k late d low =
      let there = read_at (ok language a h (lexemes rest)) is in
      let x = found place room enough ts ended a h (lexemes rest) there in
      let o = only_found place room enough ts ended a h (lexemes rest) there b k late d in
      (o.0, o.1 ∙ sym (following rest n a count x))

  pub unexpected_at : (rest : List Lexeme) (fault : SourceFault) → shape_at room (annotation place) (lexemes here) ≡ Err (Unexpected, rest) → IsUnexpected (lexemes here) rest fault → IsAnnotationFaultOrMemory place room ts fault
  unexpected_at rest fault is named =
      of_syntax place room ts (fault_of Unexpected (front_of ts rest) (first_token rest)) (first_token rest).place fault (subst (λ (us : List Lexeme). IsUnexpected us rest fault) (from_on tokens here at' same) named)
      (faulty place room enough ts ended Unexpected rest (read_at (Err (Unexpected, rest)) is))

  pub deep_at : (rest : List Lexeme) (span : Span) → shape_at room (annotation place) (lexemes here) ≡ Err (TooDeep, rest) → span ≡ (first_token rest).place → IsAnnotationFault place room ts TooHigh span
  deep_at rest span is stands = subst (λ (p : Span). IsAnnotationFault place room ts TooHigh p) (sym stands) (faulty place room enough ts ended TooDeep rest (read_at (Err (TooDeep, rest)) is))

-- no room from here on
pub no_room_at : (place : Place) (room : ℕ) → room < least_of (annotation place) → (tokens here : List Token) (at' : ℕ) → here ≡ drop at' tokens → at' < length tokens → HasEnd language (lexemes tokens) → (next language (drop at' (lexemes tokens)) == sign s.Annotation) ≡ true
    → (span : Span) → span ≡ (first_token (lexemes here)).place → IsAnnotationFault place room (drop at' (lexemes tokens)) TooHigh span
no_room_at place room lt tokens here at' same few end h span stands =
    subst (λ (p : Span). IsAnnotationFault place room (drop at' (lexemes tokens)) TooHigh p) (sym (stands ∙ ap (λ us. (first_token us).place) (from_on tokens here at' same))) (no_room place room lt (drop at' (lexemes tokens)) (have_end tokens at' end few) h)
