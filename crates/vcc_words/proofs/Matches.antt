-- What the parser makes of words, as the arguments that they are.
use Rattle.std.proofs.Common.{◌≡◌, ◌≢◌, Bool, true, false, cond, ◌||◌, not, List, [], ◌∷◌, ◌++◌, codes, Option, Some, None, is_some, refl, sym, ap, subst, ◌∙◌, inl, inr, IfOk, Result, Ok, Err}
use Rattle.std.specs.Prelude.{option_to_list}
use Rattle.std.specs.List.{fold}
use Rattle.clap.specs.Kinds.{HasKind, Kinds, or_else}
use Rattle.clap.specs.Faults.{check_fault, default_fault, defaults_fault, entered_fault, fault_of, given_default_fault, is_simple_and_free, walk_fault}
use Rattle.clap.specs.Matches.{first_value, found_of}
use Rattle.clap.specs.Takes.{is_given}
use Rattle.clap.specs.Values.{kind_of}
use Rattle.clap.specs.Walk.{Held, Row, Rule, Text, default_rows, finished, first_of, has_row, is_empty, nothing_held, reading_by, rows_of, settled_rows, with_default}
use Rattle.clap.specs.Simple.{App, HasMatchesOf, built, entered, is_simple, matches_of}
use Rattle.clap.specs.declared.error.Error.{Error}
use Rattle.clap.specs.declared.error.kind.ErrorKind.{ErrorKind}
use Rattle.clap.specs.declared.error.kind.ErrorKind.TheVariants as kind
use Rattle.clap.specs.declared.parser.matches.ArgMatches.{ArgMatches}
use Rattle.clap.specs.declared.parser.matches.Found.{Found}
use Rattle.clap.proofs.WalkLemmas.{first_value-rows}
use Rattle.vcc_words.specs.declared.arguments.Arguments.{Arguments}
use Rattle.vcc_words.specs.Arguments.{Piece, Are, AreArguments, AreNoArguments, Every, HasTexts, IsPlain, ReadsArguments, names_in, text_of}
use Rattle.vcc_words.specs.Options.{verify}
use Rattle.vcc_words.proofs.Pieces.{are_one, are_plain}
use Rattle.vcc_words.proofs.Stages.{Fresh, grow, neither}
use Rattle.vcc_words.proofs.Turns.{c, idle_at, nil_or, nothing_settles, or_nil, rows_at, settles, top}
use Rattle.vcc_words.proofs.Reader.{End, Passes, complete, sound}
use Rattle.vcc_words.proofs.Views.{Looks, first_is, fresh, given_is, looks, nothing_there}

-- ---- arguments without defaults

skip : (b t : Bool) (ks : Kinds) → t ≡ true → cond (b || t) [] ks ≡ []
skip true t ks e = refl
skip false t ks e = ap (λ (u : Bool). cond u [] ks) e

same : (b : Bool) (rows : List Row) → cond b rows rows ≡ rows
same true rows = refl
same false rows = refl

abbrev HasNone : Rule → Type 0
HasNone a = a.defaults ≡ []

no_defaults : (rules : List Rule) → Every HasNone rules → (rows : List Row) → (defaults_fault rows rules ≡ []) × (fold with_default rows rules ≡ rows)
unfolding defaults_fault
no_defaults [] h rows = (refl, refl)
no_defaults (a ∷ rest) h rows =
    let none : default_fault rows a ≡ [] = skip (has_row a.id rows) (is_empty a.defaults) (given_default_fault a a.defaults) (ap is_empty h.0) in
    let kept : with_default rows a ≡ rows = ap (λ (ds : List Text). cond (has_row a.id rows) rows (default_rows a.id (reading_by a) ds rows)) h.0 ∙ same (has_row a.id rows) rows in
    let more = no_defaults rest h.1 rows in (
      nil_or (default_fault rows a) (defaults_fault (with_default rows a) rest) none (ap (λ (rs : List Row). defaults_fault rs rest) kept ∙ more.0),
      ap (λ (rs : List Row). fold with_default rs rest) kept ∙ more.1,
    )

-- what fails at the defaults, and at the checks behind them
unfoldable defaults : List Row → Kinds
defaults rows = defaults_fault rows c

unfoldable checks : List Row → Bool → Kinds
checks rows sub = check_fault top rows sub

unfoldable ends : Held → List Row
ends h = finished c h

defaults_none : (rows : List Row) → defaults rows ≡ []
unfolding defaults top
defaults_none rows = (no_defaults c (refl, (refl, (refl, (refl, (refl, tt))))) rows).0

ends_are : (h : Held) → ends h ≡ rows_at h
unfolding ends top rows_at
ends_are h = (no_defaults c (refl, (refl, (refl, (refl, (refl, tt))))) (settled_rows c h.pending h.rows)).1

-- ---- the faults of a parse

abbrev start : List Text → Option (Text × List Text)
start ws = (End (idle_at nothing_held 1) ws).stopped

abbrev end_of : List Text → Held
end_of ws = (End (idle_at nothing_held 1) ws).held

abbrev level : List Text → Bool → Kinds → Kinds
level ws sub below = or_else (walk_fault top [] (idle_at nothing_held 1) ws) (or_else below (or_else (settles (end_of ws)) (or_else (defaults (rows_at (end_of ws))) (checks (ends (end_of ws)) sub))))

no_sub : (o : Option (Text × List Text)) → is_some (entered (built verify) o) ≡ false
unfolding verify
no_sub None = refl
no_sub (Some p) = refl

no_below : (o : Option (Text × List Text)) → entered_fault (built verify) o ≡ []
unfolding verify
no_below None = refl
no_below (Some p) = refl

fault_parts : (ws : List Text) → fault_of verify ws ≡ level ws (is_some (entered (built verify) (start ws))) (entered_fault (built verify) (start ws))
unfolding verify top settles defaults checks ends rows_at
fault_parts ws = refl

fault_is : (ws : List Text) → fault_of verify ws ≡ level ws false []
fault_is ws = fault_parts ws ∙ ap (λ (b : Bool). level ws b (entered_fault (built verify) (start ws))) (no_sub (start ws)) ∙ ap (λ (ks : Kinds). level ws false ks) (no_below (start ws))

matches_are : (ws : List Text) → matches_of verify ws ≡ ends (end_of ws)
unfolding verify top ends
matches_are ws = refl

-- an argument that has to be there isn't
abbrev wants : Bool → Bool → Kinds
wants a b = cond (not a || (not b || false)) (kind.MissingRequiredArgument ∷ []) []

wants_is : (rows : List Row) → checks rows false ≡ wants (is_given (codes "source") rows) (is_given (codes "cert") rows)
unfolding checks top
wants_is rows = refl

both_there : (a b : Bool) → wants a b ≡ [] → (a ≡ true) × (b ≡ true)
both_there true true e = (refl, refl)
both_there true false e = let f : kind.MissingRequiredArgument ∷ [] ≡ [] = e in absurd cc
both_there false b e = let f : kind.MissingRequiredArgument ∷ [] ≡ [] = e in absurd cc

there : (o : Option Text) → is_some o ≡ true → (t : Text) × (o ≡ Some t)
there None e = absurd cc
there (Some t) e = (t, refl)

-- ---- words without a fault are arguments

-- the arguments that the words are, with what the rows have of them
record Taken (ws : List Text) (rows : List Row) : Type 0 where
  pub source : Text
  pub cert : Text
  pub leaves : Option Text
  pub rounds : Option Text
  pub are : AreArguments ws source cert leaves rounds
  pub source_first : first_of (codes "source") rows ≡ Some source
  pub cert_first : first_of (codes "cert") rows ≡ Some cert
  pub leaves_first : first_of (codes "leaves") rows ≡ leaves
  pub rounds_first : first_of (codes "rounds") rows ≡ rounds

looked : (ws : List Text) (ps : List Piece) → Are ws ps → (m : Looks neither [] None None None None ps) → (source cert : Text) → m.source ≡ Some source → m.cert ≡ Some cert → AreArguments ws source cert m.leaves m.rounds
looked ws ps a m source cert e f = record {
  pieces = ps;
  are = a;
  names = m.names_are ∙ ap (λ (o : Option Text). option_to_list o ++ option_to_list m.cert) e ∙ ap (λ (o : Option Text). source ∷ option_to_list o) f;
  leaves_once = m.leaves_are;
  rounds_once = m.rounds_are;
}

-- what fails at rows that the names and options are
wants_by : (rows : List Row) (s c : Option Text) → is_given (codes "source") rows ≡ is_some s → is_given (codes "cert") rows ≡ is_some c → checks rows false ≡ wants (is_some s) (is_some c)
wants_by rows s c e f = wants_is rows ∙ ap (λ (x : Bool). wants x (is_given (codes "cert") rows)) e ∙ ap (λ (x : Bool). wants (is_some s) x) f

-- the walk over plain words with no fault: its pieces, with what the rows at its end have of them
record Walks (ws : List Text) : Type 0 where
  pub pieces : List Piece
  pub are : Are ws pieces
  pub look : Looks neither [] None None None None pieces
  pub rows : ends (end_of ws) ≡ grow neither [] pieces

walks : (ws : List Text) → Every IsPlain ws → Passes (idle_at nothing_held 1) ws → Walks ws
walks ws plain p =
    let m = sound ws plain neither nothing_held p in
    let nothing = nothing_settles.1 in
    let first : Fresh neither [] m.pieces = subst (λ (rs : List Row). Fresh neither rs m.pieces) nothing m.fresh in
    record {
      pieces = m.pieces;
      are = m.are;
      look = looks m.pieces neither [] None None None None nothing_there (refl, refl) first;
      rows = ends_are (end_of ws) ∙ m.rows ∙ ap (λ (rs : List Row). grow neither rs m.pieces) nothing;
    }

checks_are : (ws : List Text) (m : Walks ws) → checks (ends (end_of ws)) false ≡ wants (is_some m.look.source) (is_some m.look.cert)
checks_are ws m =
    let rows = grow neither [] m.pieces in
    ap (λ (rs : List Row). checks rs false) m.rows ∙ wants_by rows m.look.source m.look.cert (given_is (codes "source") rows m.look.source m.look.view.source) (given_is (codes "cert") rows m.look.cert m.look.view.cert)

taken : (ws : List Text) → Every IsPlain ws → level ws false [] ≡ [] → Taken ws (ends (end_of ws))
taken ws plain e =
    let end = end_of ws in
    let a = or_nil (walk_fault top [] (idle_at nothing_held 1) ws) (or_else (settles end) (or_else (defaults (rows_at end)) (checks (ends end) false))) e in
    let b = or_nil (settles end) (or_else (defaults (rows_at end)) (checks (ends end) false)) a.1 in
    let d = or_nil (defaults (rows_at end)) (checks (ends end) false) b.1 in
    let m = walks ws plain (record { faults = a.0; last = b.0 }) in
    let k = m.look in
    let rows = grow neither [] m.pieces in
    let two = both_there (is_some k.source) (is_some k.cert) (sym (checks_are ws m) ∙ d.1) in
    let s = there k.source two.0 in
    let t = there k.cert two.1 in
    record {
      source = s.0;
      cert = t.0;
      leaves = k.leaves;
      rounds = k.rounds;
      are = looked ws m.pieces m.are k s.0 t.0 s.1 t.1;
      source_first = ap (first_of (codes "source")) m.rows ∙ first_is (codes "source") rows k.source k.view.source ∙ s.1;
      cert_first = ap (first_of (codes "cert")) m.rows ∙ first_is (codes "cert") rows k.cert k.view.cert ∙ t.1;
      leaves_first = ap (first_of (codes "leaves")) m.rows ∙ first_is (codes "leaves") rows k.leaves k.view.leaves;
      rounds_first = ap (first_of (codes "rounds")) m.rows ∙ first_is (codes "rounds") rows k.rounds k.view.rounds;
    }

-- ---- arguments have no fault

two_there : (s c : Option Text) (a b : Text) → a ∷ b ∷ [] ≡ option_to_list s ++ option_to_list c → (is_some s ≡ true) × (is_some c ≡ true)
two_there None None a b e = absurd cc
two_there None (Some y) a b e = absurd cc
two_there (Some x) None a b e = absurd cc
two_there (Some x) (Some y) a b e = (refl, refl)

no_fault : (ws : List Text) (source cert : Text) (leaves rounds : Option Text) → AreArguments ws source cert leaves rounds → level ws false [] ≡ []
no_fault ws source cert leaves rounds a =
    let end = end_of ws in
    let f = fresh a.pieces neither [] None None None None source cert leaves rounds nothing_there (refl, refl) a.names a.leaves_once a.rounds_once in
    let from : Fresh neither (rows_at nothing_held) a.pieces = subst (λ (rs : List Row). Fresh neither rs a.pieces) (sym nothing_settles.1) f in
    let p = complete a.pieces neither nothing_held ws a.are from nothing_settles.0 in
    let m = walks ws (are_plain ws a.pieces a.are) p in
    let two = two_there m.look.source m.look.cert source cert (sym a.names ∙ ap names_in (are_one ws a.pieces m.pieces a.are m.are) ∙ m.look.names_are) in
    let passes : checks (ends end) false ≡ [] = checks_are ws m ∙ ap (λ (x : Bool). wants x (is_some m.look.cert)) two.0 ∙ ap (λ (x : Bool). wants true x) two.1 in
    nil_or (walk_fault top [] (idle_at nothing_held 1) ws) (or_else (settles end) (or_else (defaults (rows_at end)) (checks (ends end) false))) p.faults (nil_or (settles end) (or_else (defaults (rows_at end)) (checks (ends end) false)) p.last (nil_or (defaults (rows_at end)) (checks (ends end) false) (defaults_none (rows_at end)) passes))

-- ---- a parse

simple : is_simple verify ≡ true
unfolding verify
simple = refl

pub simple_and_free : is_simple_and_free verify ≡ true
unfolding verify
simple_and_free = refl

texts_are : (ws : List Text) (source cert s t : Text) (leaves rounds l r : Option Text) → AreArguments ws source cert leaves rounds → source ≡ s → cert ≡ t → leaves ≡ l → rounds ≡ r → AreArguments ws s t l r
texts_are ws source cert s t leaves rounds l r a e f g h = record {
  pieces = a.pieces;
  are = a.are;
  names = a.names ∙ ap (λ (x : Text). x ∷ cert ∷ []) e ∙ ap (λ (x : Text). s ∷ x ∷ []) f;
  leaves_once = a.leaves_once ∙ ap option_to_list g;
  rounds_once = a.rounds_once ∙ ap option_to_list h;
}

some_is : (x y : Text) → Some x ≡ Some y → x ≡ y
some_is x y e = cc

reads : (ws : List Text) (rows : List Row) (f : Found) (r : Option Arguments) → rows_of f ≡ rows → Taken ws rows → HasTexts (first_value f) r → ReadsArguments ws r
reads ws rows f None e t has =
    elim has [
      | inl none ↦ let g : Some t.source ≡ None = sym t.source_first ∙ ap (first_of (codes "source")) (sym e) ∙ sym (first_value-rows f (codes "source")) ∙ none in absurd cc
      | inr none ↦ let g : Some t.cert ≡ None = sym t.cert_first ∙ ap (first_of (codes "cert")) (sym e) ∙ sym (first_value-rows f (codes "cert")) ∙ none in absurd cc
    ]
reads ws rows f (Some a) e t has =
    let source = some_is t.source a.source.now (sym t.source_first ∙ ap (first_of (codes "source")) (sym e) ∙ sym (first_value-rows f (codes "source")) ∙ has.0) in
    let cert = some_is t.cert a.cert.now (sym t.cert_first ∙ ap (first_of (codes "cert")) (sym e) ∙ sym (first_value-rows f (codes "cert")) ∙ has.1) in
    let leaves : t.leaves ≡ text_of a.leaves = sym t.leaves_first ∙ ap (first_of (codes "leaves")) (sym e) ∙ sym (first_value-rows f (codes "leaves")) ∙ has.2 in
    let rounds : t.rounds ≡ text_of a.rounds = sym t.rounds_first ∙ ap (first_of (codes "rounds")) (sym e) ∙ sym (first_value-rows f (codes "rounds")) ∙ has.3 in
    texts_are ws t.source t.cert a.source.now a.cert.now t.leaves t.rounds (text_of a.leaves) (text_of a.rounds) t.are source cert leaves rounds

-- the arguments of matches
pub arguments_are : (a : App) (ws : List Text) (m : ArgMatches) (r : Option Arguments) → a ≡ verify → Every IsPlain ws → HasMatchesOf a ws m → (is_simple_and_free a ≡ true → fault_of a ws ≡ []) → HasTexts (first_value (found_of m)) r → ReadsArguments ws r
arguments_are a ws m r is plain matches kinds has =
    let none : level ws false [] ≡ [] = sym (fault_is ws) ∙ ap (λ (b : App). fault_of b ws) (sym is) ∙ kinds (ap is_simple_and_free is ∙ simple_and_free) in
    let rows : rows_of (found_of m) ≡ ends (end_of ws) = (matches (ap is_simple is ∙ simple)).0 ∙ ap (λ (b : App). matches_of b ws) is ∙ matches_are ws in
    reads ws (ends (end_of ws)) (found_of m) r rows (taken ws plain none) has

-- words that the parser refuses are no arguments
no_arguments : (a : App) (ws : List Text) (e : Error) → a ≡ verify → (is_simple_and_free a ≡ true → HasKind (fault_of a ws) e) → (kind_of e ≡ kind.OutOfMemory → ⊥) → AreNoArguments ws
no_arguments a ws e is kinds other source cert leaves rounds are =
    let none : fault_of a ws ≡ [] = ap (λ (b : App). fault_of b ws) is ∙ fault_is ws ∙ no_fault ws source cert leaves rounds are in
    let fails : HasKind [] e = subst (λ (ks : Kinds). HasKind ks e) none (kinds (ap is_simple_and_free is ∙ simple_and_free)) in
    elim fails [ inl memory ↦ other memory | inr among ↦ among ]

-- a refusal that is no want of memory
pub refusal_reads : {E : Type 0} (a : App) (ws : List Text) (e : Error) (k : ErrorKind) (r : Result (Option Arguments) E) → a ≡ verify → (is_simple_and_free a ≡ true → HasKind (fault_of a ws) e) → k ≡ kind_of e → IfOk r (λ o. (o ≡ None) × (k ≢ kind.OutOfMemory)) → IfOk r (ReadsArguments ws)
refusal_reads a ws e k (Err x) is kinds same h = tt
refusal_reads a ws e k (Ok o) is kinds same h = subst (ReadsArguments ws) (sym h.0) (no_arguments a ws e is kinds (λ memory. h.1 (same ∙ memory)))
