-- Worked rows: specs. Each is a text with the number of its first broken rule, which stands at the first word of the second part, or one that breaks none.
use Rattle.std.specs.Prelude.{Bool, true, List, [], ◌∷◌}
use Rattle.std.specs.List.{list_all}
use Rattle.std.proofs.Common.{◌≡◌, refl}
use Rattle.ebnf.specs.Sets.{first, first_rule, low, low_rule, is_empty}
use Rattle.ebnf.specs.Reading.{read, links, climbs, read_rule, reads}
use Rattle.typing_spec.specs.Reading.{breaks, types}

-- rule 15: what invariants read
abbrev invariant_words : List Bool
invariant_words =
    breaks 15 "struct A { int v ; struct A * n ; _( ghost \\claim c ; ) _( invariant n ->" "\\closed ) } ; void main ( ) { }" ∷
    breaks 15 "struct A { int v ; struct A * n ; _( ghost \\claim c ; ) _( invariant n ->" "\\owner == n ) } ; void main ( ) { }" ∷
    breaks 15 "struct A { int v ; struct A * n ; _( ghost \\claim c ; ) _( invariant" "\\wrapped ( n ) ) } ; void main ( ) { }" ∷
    breaks 15 "struct A { int v ; struct A * n ; _( ghost \\claim c ; ) _( invariant" "\\wrapped0 ( n ) ) } ; void main ( ) { }" ∷
    breaks 15 "struct A { int v ; struct A * n ; _( ghost \\claim c ; ) _( invariant" "\\mutable ( n ) ) } ; void main ( ) { }" ∷
    breaks 15 "struct A { int v ; struct A * n ; _( ghost \\claim c ; ) _( invariant \\old (" "\\fresh ( n ) ) ) } ; void main ( ) { }" ∷
    breaks 15 "struct A { int v ; struct A * n ; _( ghost \\claim c ; ) _( invariant n ==" "\\me ) } ; void main ( ) { }" ∷
    breaks 15 "struct A { int v ; struct A * n ; _( ghost \\claim c ; ) _( invariant v ==" "\\result ) } ; void main ( ) { }" ∷
    types "struct A { int v ; struct A * n ; _( ghost \\claim c ; ) _( invariant n -> \\claim_count == 0 && \\claims_object ( c , \\this ) ) } ; void main ( ) { }" ∷
    types "struct A { int v ; struct A * n ; _( ghost \\claim c ; ) _( invariant \\unchanged ( v ) || \\old ( v ) <= v ) } ; void main ( ) { }" ∷
    types "struct A { int v ; struct A * n ; } ; void main ( struct A * p ) { while ( 1 ) _( invariant \\wrapped ( p ) && p -> \\owner == \\me && ! p -> \\closed ) ; }" ∷
    []

invariant_words_hold : list_all (λ b. b) invariant_words ≡ true
unfolding reads read links climbs read_rule first first_rule low low_rule is_empty
invariant_words_hold = refl

-- rule 16: the form of quantifiers
abbrev quantifiers : List Bool
quantifiers =
    breaks 16 "struct A { int v ; struct A * n ; } ; void main ( struct A * p , struct A * q ) { _( assert" "\\forall \\object o ; o == p ) }" ∷
    types "struct A { int v ; struct A * n ; } ; void main ( struct A * p , struct A * q ) { _( assert \\forall \\object o ; o \\in p -> \\owns ==> o == p ) }" ∷
    breaks 16 "struct A { int v ; struct A * n ; } ; void main ( struct A * p , struct A * q ) { _( assert" "\\forall \\object o ; o \\in p -> \\owns && o == p ) }" ∷
    breaks 16 "struct A { int v ; struct A * n ; } ; void main ( struct A * p , struct A * q ) { _( assert" "\\forall \\object o ; o == p ==> o \\in p -> \\owns ) }" ∷
    types "struct A { int v ; struct A * n ; } ; void main ( struct A * p , struct A * q ) { _( assert \\forall \\object o ; ( ( o \\in p -> \\owns ) ==> o == p ) ) }" ∷
    breaks 16 "struct A { int v ; struct A * n ; } ; void main ( struct A * p , struct A * q ) { _( assert" "\\forall \\object o ; p \\in p -> \\owns ==> o == p ) }" ∷
    breaks 16 "struct A { int v ; struct A * n ; } ; void main ( struct A * p , struct A * q ) { _( assert" "\\forall struct A * o ; o \\in o -> \\owns ==> 1 ) }" ∷
    breaks 16 "struct A { int v ; struct A * n ; } ; void main ( struct A * p , struct A * q ) { _( assert" "\\forall struct A * o ; o \\in o -> n -> \\owns ==> 1 ) }" ∷
    types "struct A { int v ; struct A * n ; } ; void main ( struct A * p , struct A * q ) { _( assert \\exists \\object o ; o \\in p -> \\owns && o == p ) }" ∷
    types "struct A { int v ; struct A * n ; } ; void main ( struct A * p , struct A * q ) { _( assert \\exists struct A * o ; o \\in p -> \\owns && o == p && o == q ) }" ∷
    breaks 16 "struct A { int v ; struct A * n ; } ; void main ( struct A * p , struct A * q ) { _( assert" "\\exists struct A * o ; ( o \\in p -> \\owns && o == p ) && o == q ) }" ∷
    breaks 16 "struct A { int v ; struct A * n ; } ; void main ( struct A * p , struct A * q ) { _( assert" "\\exists \\object o ; o \\in p -> \\owns ) }" ∷
    types "struct A { int v ; struct A * n ; } ; void main ( struct A * p , struct A * q ) { _( assert \\exists \\object o ; ( ( o \\in p -> \\owns ) && o == p ) ) }" ∷
    breaks 16 "struct A { int v ; struct A * n ; } ; void main ( struct A * p , struct A * q ) { _( assert" "\\forall \\object o ; ( o \\in p -> \\owns ==> o == p ) ==> 1 ) }" ∷
    breaks 16 "struct A { int v ; struct A * n ; } ; void main ( struct A * p , struct A * q ) { _( assert \\forall \\object o ; o \\in p -> \\owns ==>" "\\exists \\object r ; r == o ) }" ∷
    breaks 16 "struct A { int v ; struct A * n ; } ; void main ( struct A * p , struct A * q ) { _( assert" "\\exists \\object o ; o \\in p -> \\owns ==> o == p ) }" ∷
    breaks 16 "struct A { int v ; struct A * n ; _( ghost \\claim c ; ) _( invariant n \\in n ->" "\\owns ) } ; void main ( ) { }" ∷
    types "struct A { int v ; struct A * n ; _( ghost \\claim c ; ) _( invariant n \\in \\this -> \\owns ) } ; void main ( ) { }" ∷
    types "struct A { int v ; struct A * n ; _( ghost \\claim c ; ) _( invariant n \\in ( \\this ) -> \\owns ) } ; void main ( ) { }" ∷
    breaks 16 "struct A { int v ; struct A * n ; _( ghost \\claim c ; ) _( invariant \\forall \\object o ; o \\in n ->" "\\owns ==> 1 ) } ; void main ( ) { }" ∷
    types "struct A { int v ; struct A * n ; _( ghost \\claim c ; ) _( invariant \\forall \\object o ; o \\in \\this -> \\owns ==> 1 ) } ; void main ( ) { }" ∷
    []

quantifiers_hold : list_all (λ b. b) quantifiers ≡ true
unfolding reads read links climbs read_rule first first_rule low low_rule is_empty
quantifiers_hold = refl

-- rules 17 to 19: where words of specs stand
abbrev old_words : List Bool
old_words =
    breaks 17 "struct A { int v ; struct A * n ; } ; int f ( struct A * p , int x _( ghost \\claim c ) ) _( requires" "\\old ( x ) == 1 ) { return 1 ; } void main ( ) { }" ∷
    breaks 17 "struct A { int v ; struct A * n ; } ; int f ( struct A * p , int x _( ghost \\claim c ) ) _( requires" "\\unchanged ( x ) ) { return 1 ; } void main ( ) { }" ∷
    breaks 17 "struct A { int v ; struct A * n ; } ; int f ( struct A * p , int x _( ghost \\claim c ) ) _( requires" "\\fresh ( p ) ) { return 1 ; } void main ( ) { }" ∷
    breaks 17 "struct A { int v ; struct A * n ; } ; int f ( struct A * p , int x _( ghost \\claim c ) ) _( maintains" "\\old ( x ) == 1 ) { return 1 ; } void main ( ) { }" ∷
    breaks 17 "struct A { int v ; struct A * n ; } ; int f ( struct A * p , int x _( ghost \\claim c ) ) _( maintains" "\\unchanged ( x ) ) { return 1 ; } void main ( ) { }" ∷
    breaks 17 "struct A { int v ; struct A * n ; } ; int f ( struct A * p , int x _( ghost \\claim c ) ) _( maintains" "\\fresh ( p ) ) { return 1 ; } void main ( ) { }" ∷
    breaks 17 "struct A { int v ; struct A * n ; } ; int f ( struct A * p , int x _( ghost \\claim c ) ) _( writes" "\\old ( p ) ) { return 1 ; } void main ( ) { }" ∷
    types "struct A { int v ; struct A * n ; } ; int f ( struct A * p , int x _( ghost \\claim c ) ) _( ensures \\old ( x ) == 1 && \\unchanged ( x ) && \\fresh ( p ) ) { return 1 ; } void main ( ) { }" ∷
    breaks 17 "struct A { int v ; struct A * n ; } ; int f ( struct A * p , int x _( ghost \\claim c ) ) _( ensures \\old (" "\\old ( x ) ) == 1 ) { return 1 ; } void main ( ) { }" ∷
    breaks 17 "struct A { int v ; struct A * n ; } ; int f ( struct A * p , int x _( ghost \\claim c ) ) _( ensures \\old ( \\unchanged (" "\\old ( x ) ) ) ) { return 1 ; } void main ( ) { }" ∷
    types "struct A { int v ; struct A * n ; } ; int f ( struct A * p , int x _( ghost \\claim c ) ) _( ensures \\old ( \\unchanged ( x ) ) && \\unchanged ( \\old ( x ) ) ) { return 1 ; } void main ( ) { }" ∷
    breaks 17 "struct A { int v ; struct A * n ; } ; int f ( struct A * p , int x _( ghost \\claim c ) ) _( ensures \\claims ( c ," "\\old ( x ) == 1 ) ) { return 1 ; } void main ( ) { }" ∷
    breaks 17 "_( claimable ) struct A { int v ; } ; void main ( struct A * p , struct A * q _( ghost \\claim c ) _( ghost \\object o ) ) { _( ghost c = \\make_claim ( { p } ," "\\old ( 1 ) ) ; ) }" ∷
    types "_( claimable ) struct A { int v ; } ; void main ( struct A * p , struct A * q _( ghost \\claim c ) _( ghost \\object o ) ) { _( assert \\old ( p -> v ) == 1 ) }" ∷
    breaks 18 "struct A { int v ; struct A * n ; } ; int f ( struct A * p , int x _( ghost \\claim c ) ) _( requires" "\\result == 1 ) { return 1 ; } void main ( ) { }" ∷
    types "struct A { int v ; struct A * n ; } ; int f ( struct A * p , int x _( ghost \\claim c ) ) _( ensures \\result == 1 ) { return 1 ; } void main ( ) { }" ∷
    breaks 18 "struct A { int v ; struct A * n ; } ; int f ( struct A * p , int x _( ghost \\claim c ) ) _( maintains" "\\result == 1 ) { return 1 ; } void main ( ) { }" ∷
    breaks 18 "struct A { int v ; struct A * n ; } ; int f ( struct A * p , int x _( ghost \\claim c ) ) _( requires \\wrapped (" "\\result ) ) { return 1 ; } void main ( ) { }" ∷
    breaks 18 "void main ( ) _( ensures" "\\result == 1 ) { }" ∷
    breaks 18 "void main ( ) { _( assert" "\\result == 1 ) }" ∷
    types "struct A { int v ; struct A * n ; } ; int f ( struct A * p , int x _( ghost \\claim c ) ) _( ensures \\claims ( c , \\result == 1 ) ) { return 1 ; } void main ( ) { }" ∷
    breaks 19 "void main ( ) { _( assert" "\\this == NULL ) }" ∷
    breaks 19 "struct A { int v ; struct A * n ; } ; int f ( struct A * p , int x _( ghost \\claim c ) ) _( requires" "\\mine ( p ) ) { return 1 ; } void main ( ) { }" ∷
    breaks 19 "void main ( ) { while ( 1 ) _( invariant" "\\mine ( NULL ) ) ; }" ∷
    breaks 19 "void main ( ) { while ( 1 ) _( invariant" "\\this == NULL ) ; }" ∷
    breaks 19 "struct A { int v ; struct A * n ; } ; void main ( struct A * p ) { _( ghost \\claim c = \\make_claim ( { NULL } ," "\\this == p ) ; ) }" ∷
    types "struct A { int v ; struct A * n ; _( ghost \\claim c ; ) _( invariant \\mine ( n ) && \\this != n ) } ; void main ( ) { }" ∷
    []

old_words_hold : list_all (λ b. b) old_words ≡ true
unfolding reads read links climbs read_rule first first_rule low low_rule is_empty
old_words_hold = refl
