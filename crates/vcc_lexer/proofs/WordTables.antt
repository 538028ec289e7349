-- Each word is in the table of its kind, and is spelled as a name.
use Rattle.std.proofs.Common.{◌≡◌, ℕ, Bool, true, false, List, [], ◌∷◌, ◌&&◌, lit<, refl, sym, ap, ◌∙◌}
use Rattle.std.specs.Prelude.{All, if◌then◌else◌}
use Rattle.std.specs.Str.{bytes_eq}
use Rattle.c_syntax.specs.declared.token.Keyword.{Keyword}
use Rattle.c_syntax.specs.declared.token.Keyword.TheVariants as k
use Rattle.c_syntax.specs.declared.token.SpecWord.{SpecWord}
use Rattle.c_syntax.specs.declared.token.SpecWord.TheVariants as w
use Rattle.c_syntax.specs.Words.{keyword_text, spec_word_text}
use Rattle.c_syntax.specs.Numbers.{is_letter}
use Rattle.c_syntax.specs.Tokens.{is_name_byte}
use Rattle.vcc_lexer.specs.declared.words.TheConstants.{KEYWORDS, SPEC_WORDS}

-- letters, digits and `_`, of which the first is a letter
abbrev pub all_name_bytes : List ℕ → Bool
all_name_bytes [] = true
all_name_bytes (b ∷ bs) = is_name_byte b && all_name_bytes bs

abbrev pub is_word_text : List ℕ → Bool
is_word_text [] = false
is_word_text (b ∷ bs) = is_letter b && all_name_bytes bs

pub each_keyword : (P : Keyword → Type 0) → All P KEYWORDS → (x : Keyword) → P x
each_keyword P all k.Claimable = all 0 k.Claimable (lit< tt)
each_keyword P all k.DynamicOwns = all 1 k.DynamicOwns (lit< tt)
each_keyword P all k.VolatileOwns = all 2 k.VolatileOwns (lit< tt)
each_keyword P all k.Struct = all 3 k.Struct (lit< tt)
each_keyword P all k.Volatile = all 4 k.Volatile (lit< tt)
each_keyword P all k.Invariant = all 5 k.Invariant (lit< tt)
each_keyword P all k.Ghost = all 6 k.Ghost (lit< tt)
each_keyword P all k.Int = all 7 k.Int (lit< tt)
each_keyword P all k.Unsigned = all 8 k.Unsigned (lit< tt)
each_keyword P all k.Long = all 9 k.Long (lit< tt)
each_keyword P all k.Void = all 10 k.Void (lit< tt)
each_keyword P all k.Requires = all 11 k.Requires (lit< tt)
each_keyword P all k.Ensures = all 12 k.Ensures (lit< tt)
each_keyword P all k.Maintains = all 13 k.Maintains (lit< tt)
each_keyword P all k.Writes = all 14 k.Writes (lit< tt)
each_keyword P all k.If = all 15 k.If (lit< tt)
each_keyword P all k.Else = all 16 k.Else (lit< tt)
each_keyword P all k.While = all 17 k.While (lit< tt)
each_keyword P all k.Do = all 18 k.Do (lit< tt)
each_keyword P all k.For = all 19 k.For (lit< tt)
each_keyword P all k.Return = all 20 k.Return (lit< tt)
each_keyword P all k.VccSpawn = all 21 k.VccSpawn (lit< tt)
each_keyword P all k.Free = all 22 k.Free (lit< tt)
each_keyword P all k.Assert = all 23 k.Assert (lit< tt)
each_keyword P all k.Wrap = all 24 k.Wrap (lit< tt)
each_keyword P all k.Unwrap = all 25 k.Unwrap (lit< tt)
each_keyword P all k.Unwrapping = all 26 k.Unwrapping (lit< tt)
each_keyword P all k.Atomic = all 27 k.Atomic (lit< tt)
each_keyword P all k.Malloc = all 28 k.Malloc (lit< tt)
each_keyword P all k.Sizeof = all 29 k.Sizeof (lit< tt)
each_keyword P all k.CompareExchange = all 30 k.CompareExchange (lit< tt)
each_keyword P all k.Exchange = all 31 k.Exchange (lit< tt)
each_keyword P all k.Increment = all 32 k.Increment (lit< tt)
each_keyword P all k.Decrement = all 33 k.Decrement (lit< tt)
each_keyword P all k.Null = all 34 k.Null (lit< tt)

pub keyword_is_name : (x : Keyword) → is_word_text (keyword_text x) ≡ true
keyword_is_name k.Claimable = refl
keyword_is_name k.DynamicOwns = refl
keyword_is_name k.VolatileOwns = refl
keyword_is_name k.Struct = refl
keyword_is_name k.Volatile = refl
keyword_is_name k.Invariant = refl
keyword_is_name k.Ghost = refl
keyword_is_name k.Int = refl
keyword_is_name k.Unsigned = refl
keyword_is_name k.Long = refl
keyword_is_name k.Void = refl
keyword_is_name k.Requires = refl
keyword_is_name k.Ensures = refl
keyword_is_name k.Maintains = refl
keyword_is_name k.Writes = refl
keyword_is_name k.If = refl
keyword_is_name k.Else = refl
keyword_is_name k.While = refl
keyword_is_name k.Do = refl
keyword_is_name k.For = refl
keyword_is_name k.Return = refl
keyword_is_name k.VccSpawn = refl
keyword_is_name k.Free = refl
keyword_is_name k.Assert = refl
keyword_is_name k.Wrap = refl
keyword_is_name k.Unwrap = refl
keyword_is_name k.Unwrapping = refl
keyword_is_name k.Atomic = refl
keyword_is_name k.Malloc = refl
keyword_is_name k.Sizeof = refl
keyword_is_name k.CompareExchange = refl
keyword_is_name k.Exchange = refl
keyword_is_name k.Increment = refl
keyword_is_name k.Decrement = refl
keyword_is_name k.Null = refl

look_up_keyword : List ℕ → List Keyword → Keyword
look_up_keyword v [] = k.Claimable
look_up_keyword v (x ∷ xs) = if bytes_eq v (keyword_text x) then x else look_up_keyword v xs

keyword_of : List ℕ → Keyword
keyword_of v = look_up_keyword v KEYWORDS

keyword_of_text : (x : Keyword) → keyword_of (keyword_text x) ≡ x
unfolding keyword_of look_up_keyword
keyword_of_text k.Claimable = refl
keyword_of_text k.DynamicOwns = refl
keyword_of_text k.VolatileOwns = refl
keyword_of_text k.Struct = refl
keyword_of_text k.Volatile = refl
keyword_of_text k.Invariant = refl
keyword_of_text k.Ghost = refl
keyword_of_text k.Int = refl
keyword_of_text k.Unsigned = refl
keyword_of_text k.Long = refl
keyword_of_text k.Void = refl
keyword_of_text k.Requires = refl
keyword_of_text k.Ensures = refl
keyword_of_text k.Maintains = refl
keyword_of_text k.Writes = refl
keyword_of_text k.If = refl
keyword_of_text k.Else = refl
keyword_of_text k.While = refl
keyword_of_text k.Do = refl
keyword_of_text k.For = refl
keyword_of_text k.Return = refl
keyword_of_text k.VccSpawn = refl
keyword_of_text k.Free = refl
keyword_of_text k.Assert = refl
keyword_of_text k.Wrap = refl
keyword_of_text k.Unwrap = refl
keyword_of_text k.Unwrapping = refl
keyword_of_text k.Atomic = refl
keyword_of_text k.Malloc = refl
keyword_of_text k.Sizeof = refl
keyword_of_text k.CompareExchange = refl
keyword_of_text k.Exchange = refl
keyword_of_text k.Increment = refl
keyword_of_text k.Decrement = refl
keyword_of_text k.Null = refl

pub same_keyword : (a b : Keyword) → keyword_text a ≡ keyword_text b → a ≡ b
same_keyword a b e = sym (keyword_of_text a) ∙ ap keyword_of e ∙ keyword_of_text b

pub each_spec_word : (P : SpecWord → Type 0) → All P SPEC_WORDS → (x : SpecWord) → P x
each_spec_word P all w.Object = all 0 w.Object (lit< tt)
each_spec_word P all w.Claim = all 1 w.Claim (lit< tt)
each_spec_word P all w.Span = all 2 w.Span (lit< tt)
each_spec_word P all w.Extent = all 3 w.Extent (lit< tt)
each_spec_word P all w.Owns = all 4 w.Owns (lit< tt)
each_spec_word P all w.DestroyClaim = all 5 w.DestroyClaim (lit< tt)
each_spec_word P all w.MakeClaim = all 6 w.MakeClaim (lit< tt)
each_spec_word P all w.In = all 7 w.In (lit< tt)
each_spec_word P all w.True = all 8 w.True (lit< tt)
each_spec_word P all w.False = all 9 w.False (lit< tt)
each_spec_word P all w.This = all 10 w.This (lit< tt)
each_spec_word P all w.Me = all 11 w.Me (lit< tt)
each_spec_word P all w.Result = all 12 w.Result (lit< tt)
each_spec_word P all w.Old = all 13 w.Old (lit< tt)
each_spec_word P all w.Unchanged = all 14 w.Unchanged (lit< tt)
each_spec_word P all w.Mine = all 15 w.Mine (lit< tt)
each_spec_word P all w.Wrapped = all 16 w.Wrapped (lit< tt)
each_spec_word P all w.WrappedUnclaimed = all 17 w.WrappedUnclaimed (lit< tt)
each_spec_word P all w.Mutable = all 18 w.Mutable (lit< tt)
each_spec_word P all w.Fresh = all 19 w.Fresh (lit< tt)
each_spec_word P all w.ClaimsObject = all 20 w.ClaimsObject (lit< tt)
each_spec_word P all w.Claims = all 21 w.Claims (lit< tt)
each_spec_word P all w.ClaimsOnly = all 22 w.ClaimsOnly (lit< tt)
each_spec_word P all w.Approves = all 23 w.Approves (lit< tt)
each_spec_word P all w.Closed = all 24 w.Closed (lit< tt)
each_spec_word P all w.Owner = all 25 w.Owner (lit< tt)
each_spec_word P all w.ClaimCount = all 26 w.ClaimCount (lit< tt)
each_spec_word P all w.Forall = all 27 w.Forall (lit< tt)
each_spec_word P all w.Exists = all 28 w.Exists (lit< tt)

pub spec_word_is_name : (x : SpecWord) → is_word_text (spec_word_text x) ≡ true
spec_word_is_name w.Object = refl
spec_word_is_name w.Claim = refl
spec_word_is_name w.Span = refl
spec_word_is_name w.Extent = refl
spec_word_is_name w.Owns = refl
spec_word_is_name w.DestroyClaim = refl
spec_word_is_name w.MakeClaim = refl
spec_word_is_name w.In = refl
spec_word_is_name w.True = refl
spec_word_is_name w.False = refl
spec_word_is_name w.This = refl
spec_word_is_name w.Me = refl
spec_word_is_name w.Result = refl
spec_word_is_name w.Old = refl
spec_word_is_name w.Unchanged = refl
spec_word_is_name w.Mine = refl
spec_word_is_name w.Wrapped = refl
spec_word_is_name w.WrappedUnclaimed = refl
spec_word_is_name w.Mutable = refl
spec_word_is_name w.Fresh = refl
spec_word_is_name w.ClaimsObject = refl
spec_word_is_name w.Claims = refl
spec_word_is_name w.ClaimsOnly = refl
spec_word_is_name w.Approves = refl
spec_word_is_name w.Closed = refl
spec_word_is_name w.Owner = refl
spec_word_is_name w.ClaimCount = refl
spec_word_is_name w.Forall = refl
spec_word_is_name w.Exists = refl

look_up_spec_word : List ℕ → List SpecWord → SpecWord
look_up_spec_word v [] = w.Object
look_up_spec_word v (x ∷ xs) = if bytes_eq v (spec_word_text x) then x else look_up_spec_word v xs

spec_word_of : List ℕ → SpecWord
spec_word_of v = look_up_spec_word v SPEC_WORDS

spec_word_of_text : (x : SpecWord) → spec_word_of (spec_word_text x) ≡ x
unfolding spec_word_of look_up_spec_word
spec_word_of_text w.Object = refl
spec_word_of_text w.Claim = refl
spec_word_of_text w.Span = refl
spec_word_of_text w.Extent = refl
spec_word_of_text w.Owns = refl
spec_word_of_text w.DestroyClaim = refl
spec_word_of_text w.MakeClaim = refl
spec_word_of_text w.In = refl
spec_word_of_text w.True = refl
spec_word_of_text w.False = refl
spec_word_of_text w.This = refl
spec_word_of_text w.Me = refl
spec_word_of_text w.Result = refl
spec_word_of_text w.Old = refl
spec_word_of_text w.Unchanged = refl
spec_word_of_text w.Mine = refl
spec_word_of_text w.Wrapped = refl
spec_word_of_text w.WrappedUnclaimed = refl
spec_word_of_text w.Mutable = refl
spec_word_of_text w.Fresh = refl
spec_word_of_text w.ClaimsObject = refl
spec_word_of_text w.Claims = refl
spec_word_of_text w.ClaimsOnly = refl
spec_word_of_text w.Approves = refl
spec_word_of_text w.Closed = refl
spec_word_of_text w.Owner = refl
spec_word_of_text w.ClaimCount = refl
spec_word_of_text w.Forall = refl
spec_word_of_text w.Exists = refl

pub same_spec_word : (a b : SpecWord) → spec_word_text a ≡ spec_word_text b → a ≡ b
same_spec_word a b e = sym (spec_word_of_text a) ∙ ap spec_word_of e ∙ spec_word_of_text b
