-- What reading takes for a token is spelled so, and what it finds wrong is wrong.
use Rattle.std.proofs.Common.{◌≡◌, ℕ, suc, ◌+◌, ◌≤◌, Bool, true, false, cond, List, [], ◌∷◌, ◌++◌, length, take, drop, Option, Some, None, Result, Ok, Err, refl, sym, ap, ◌∙◌, subst, append_assoc, append-nil, length-append, take-append-drop, add-one, arith}
use Rattle.std.specs.Prelude.{◌==◌, nat_lt, codes, bytes_eq}
use Rattle.std.specs.Char.{to_ascii_lowercase}
use Rattle.std.proofs.lemmas.Bool.{eqb-true, eqb-false, ltb-true, ltb-false, cond_both}
use Rattle.std.proofs.lemmas.List.{nil_from_length}
use Rattle.std.proofs.lemmas.Slice.Eq.{bytes_eq-Decides}
use Rattle.tb_prim.specs.Fixnums.{is_fixnum}
use Rattle.tb_sexp.specs.declared.token.Token.{Token}
use Rattle.tb_sexp.specs.declared.token.Token.TheVariants as token
use Rattle.tb_sexp.specs.declared.token.Mark.TheVariants.{Quote, Quasiquote, Unquote, UnquoteSplicing}
use Rattle.tb_sexp.specs.declared.token.Fault.{Fault}
use Rattle.tb_sexp.specs.declared.token.Fault.TheVariants.{Syntax, LongName, BigNumber, LongString, BadEscape, OpenString}
use Rattle.tb_sexp.specs.Bytes.{is_identifier, escaped_of, folded}
use Rattle.tb_sexp.specs.calls.Scanning.{run_length}
use Rattle.tb_sexp.specs.calls.Lexing.{atom_at, atom_of, based_of, character_at, character_of, comma_at, fixnum_of, hash_at, hashed_of, is_folded, name_of, named_of, number_of, on_some, run, sized, string_from, string_at, token_at, truth_of, digits_of, is_negative, is_number}
use Rattle.tb_sexp.specs.Numbers.{base_of, are_digits, value_of, signed}
use Rattle.tb_sexp.specs.Tokens.{Characters, no_more, plain, escaped, Prefix, decimal, based, Sign, unsigned, plus, minus, IsNumeral, numeral, EndsWord, EndsAt, Spells, open_list, open_vector, close, quote, quasiquote, unquote, splicing, dot, truth, falsity, number, name, one_byte, space, newline, text, TokenAt, Spoiled, long_name, big_number, long_string, bad_escape, open_string, open_escape}
use Rattle.tb_sexp.proofs.TokensBytes.{run_ends, run_size}

-- a fault of its own, or none
abbrev pub OwnFault : List ℕ → Fault → Type 0
OwnFault bs Syntax = Unit {0}
OwnFault bs LongName = Spoiled bs LongName
OwnFault bs BigNumber = Spoiled bs BigNumber
OwnFault bs LongString = Spoiled bs LongString
OwnFault bs (BadEscape n) = Spoiled bs (BadEscape n)
OwnFault bs OpenString = Spoiled bs OpenString

-- what reading answers for a text
abbrev pub Found : List ℕ → Result (Token × ℕ) Fault → Type 0
Found bs (Ok x) = TokenAt bs x.0 x.1
Found bs (Err f) = OwnFault bs f

-- what it answers for a word before the rest
abbrev WordFound : List ℕ → List ℕ → Result Token Fault → Type 0
WordFound w rest (Ok t) = Spells w t × EndsAt t rest
WordFound w rest (Err f) = OwnFault (w ++ rest) f

fault_moved : (bs cs : List ℕ) (f : Fault) → cs ≡ bs → OwnFault bs f → OwnFault cs f
fault_moved bs cs f e h = subst (λ xs. OwnFault xs f) (sym e) h

sized_found : (w rest bs : List ℕ) (r : Result Token Fault) (n : ℕ) → bs ≡ w ++ rest → length w ≡ n → WordFound w rest r → Found bs (sized r n)
sized_found w rest bs (Ok t) n e size h = record { word = w; rest = rest; whole = e; size = size; spells = h.0; ends = h.1 }
sized_found w rest bs (Err f) n e size h = fault_moved (w ++ rest) bs f e h

-- numbers
fixnum_found : {w ds : List ℕ} {base : ℕ} {negative : Bool} → IsNumeral w base negative ds → (rest : List ℕ) → EndsWord rest → WordFound w rest (fixnum_of negative (value_of base ds))
fixnum_found {w} {ds} {base} {negative} num rest ends =
    cond_both (is_fixnum (signed negative (value_of base ds))) (Ok (token.Fix (signed negative (value_of base ds)))) (Err BigNumber) (WordFound w rest)
    (λ e. (number num e, ends)) (λ e. big_number rest num e ends)

-- the sign in front
record Signed (v : List ℕ) : Type 0 where
  front : List ℕ
  sign : Sign front (is_negative v)
  whole : v ≡ front ++ digits_of v

sign_found : (v : List ℕ) → Signed v
sign_found [] = record { front = []; sign = unsigned; whole = refl }
sign_found (b ∷ bs) = by (b == 43) (b == 45) refl refl
  where
    by : (p m : Bool) → (b == 43) ≡ p → (b == 45) ≡ m → Signed (b ∷ bs)
    by true m p_is m_is = subst (λ n. Signed (n ∷ bs)) (sym (eqb-true b 43 p_is)) (record { front = 43 ∷ []; sign = plus; whole = refl })
    by false true p_is m_is = subst (λ n. Signed (n ∷ bs)) (sym (eqb-true b 45 m_is)) (record { front = 45 ∷ []; sign = minus; whole = refl })
    by false false p_is m_is = record { front = []; sign = subst (λ m. Sign [] m) (sym m_is) unsigned; whole = rw (p_is, m_is) }

number_found : {p : List ℕ} {base : ℕ} → Prefix p base → (v rest : List ℕ) → EndsWord rest → WordFound (p ++ v) rest (number_of base v)
number_found {p} {base} prefix v rest ends =
    cond_both (is_number base v) (fixnum_of (is_negative v) (value_of base (digits_of v))) (Err Syntax) (WordFound (p ++ v) rest)
    (λ e. fixnum_found (whole e) rest ends) (λ e. tt)
  where
    whole : are_digits base (digits_of v) ≡ true → IsNumeral (p ++ v) base (is_negative v) (digits_of v)
    whole e = let s = sign_found v in subst (λ xs. IsNumeral (p ++ xs) base (is_negative v) (digits_of v)) (sym s.whole) (numeral prefix s.sign e)

-- names, and what else goes up to a delimiter
name_found : (v rest : List ℕ) → is_identifier v ≡ true → EndsWord rest → WordFound v rest (name_of v)
name_found v rest h ends =
    cond_both (nat_lt 255 (length v)) (Err LongName) (Ok (token.Name (folded v))) (WordFound v rest)
    (λ e. long_name v rest h (ltb-true 255 (length v) e) ends) (λ e. (name h (ltb-false 255 (length v) e), ends))

atom_word : (v rest : List ℕ) → EndsWord rest → WordFound v rest (atom_of v)
atom_word v rest ends =
    cond_both (bytes_eq v (codes ".")) (Ok token.Dot) (cond (is_identifier v) (name_of v) (number_of 10 v)) (WordFound v rest)
    (λ e. (subst (λ w. Spells w token.Dot) (sym ((bytes_eq-Decides v (codes ".")).0 e)) dot, ends))
    (λ _. cond_both (is_identifier v) (name_of v) (number_of 10 v) (WordFound v rest) (λ e. name_found v rest e ends) (λ _. number_found decimal v rest ends))

-- the run in front, and the rest
run_whole : (bs : List ℕ) → bs ≡ run bs ++ drop (run_length bs) bs
run_whole bs = sym (take-append-drop (run_length bs) bs)

atom_found : (bs : List ℕ) → Found bs (atom_at bs)
atom_found bs =
    cond_both (run_length bs == 0) (Err Syntax) (sized (atom_of (run bs)) (run_length bs)) (Found bs) (λ _. tt)
    (λ _. sized_found (run bs) (drop (run_length bs) bs) bs (atom_of (run bs)) (run_length bs) (run_whole bs) (run_size bs)
    (atom_word (run bs) (drop (run_length bs) bs) (run_ends bs)))

-- behind `#`
truth_word : (b : ℕ) (value : Bool) (v rest : List ℕ) → Spells (35 ∷ b ∷ []) (token.Bool value) → EndsWord rest → WordFound (35 ∷ b ∷ v) rest (truth_of value v)
truth_word b value [] rest h ends = (h, ends)
truth_word b value (c ∷ v) rest h ends = tt

based_word : (b : ℕ) (v rest : List ℕ) → EndsWord rest → (o : Option ℕ) → base_of (to_ascii_lowercase b) ≡ o → WordFound (35 ∷ b ∷ v) rest (based_of o v)
based_word b v rest ends None e = tt
based_word b v rest ends (Some base) e = number_found (based e) v rest ends

hashed_word : (v rest : List ℕ) → EndsWord rest → WordFound (35 ∷ v) rest (hashed_of v)
hashed_word [] rest ends = tt
hashed_word (b ∷ v) rest ends =
    cond_both (to_ascii_lowercase b == 116) (truth_of true v) (cond (to_ascii_lowercase b == 102) (truth_of false v) (based_of (base_of (to_ascii_lowercase b)) v)) (WordFound (35 ∷ b ∷ v) rest)
    (λ e. truth_word b true v rest (truth (eqb-true (to_ascii_lowercase b) 116 e)) ends)
    (λ _. cond_both (to_ascii_lowercase b == 102) (truth_of false v) (based_of (base_of (to_ascii_lowercase b)) v) (WordFound (35 ∷ b ∷ v) rest)
    (λ e. truth_word b false v rest (falsity (eqb-true (to_ascii_lowercase b) 102 e)) ends)
    (λ _. based_word b v rest ends (base_of (to_ascii_lowercase b)) refl))

hashed_found : (b : ℕ) (bs : List ℕ) → Found (35 ∷ b ∷ bs) (sized (hashed_of (run (b ∷ bs))) (run_length (b ∷ bs) + 1))
hashed_found b bs =
    let cs = b ∷ bs in
    sized_found (35 ∷ run cs) (drop (run_length cs) cs) (35 ∷ cs) (hashed_of (run cs)) (run_length cs + 1) (ap (λ xs. 35 ∷ xs) (run_whole cs))
    (ap suc (run_size cs) ∙ sym (add-one (run_length cs))) (hashed_word (run cs) (drop (run_length cs) cs) (run_ends cs))

named_word : (b : ℕ) (v rest : List ℕ) → EndsWord rest → WordFound (35 ∷ 92 ∷ b ∷ v) rest (named_of (b ∷ v))
named_word b v rest ends =
    cond_both (is_folded (b ∷ v) (codes "space")) (Ok (token.Char 32)) (cond (is_folded (b ∷ v) (codes "newline")) (Ok (token.Char 10)) (Err Syntax)) (WordFound (35 ∷ 92 ∷ b ∷ v) rest)
    (λ e. (space ((bytes_eq-Decides (folded (b ∷ v)) (folded (codes "space"))).0 e), ends))
    (λ _. cond_both (is_folded (b ∷ v) (codes "newline")) (Ok (token.Char 10)) (Err Syntax) (WordFound (35 ∷ 92 ∷ b ∷ v) rest)
    (λ e. (newline ((bytes_eq-Decides (folded (b ∷ v)) (folded (codes "newline"))).0 e), ends)) (λ _. tt))

character_word : (b : ℕ) (v rest : List ℕ) → EndsWord rest → WordFound (35 ∷ 92 ∷ b ∷ v) rest (character_of (b ∷ v))
character_word b v rest ends =
    cond_both (length v == 0) (Ok (token.Char b)) (named_of (b ∷ v)) (WordFound (35 ∷ 92 ∷ b ∷ v) rest)
    (λ e. (subst (λ xs. Spells (35 ∷ 92 ∷ b ∷ xs) (token.Char b)) (sym (nil_from_length v (eqb-true (length v) 0 e))) one_byte, ends))
    (λ _. named_word b v rest ends)

character_found : (bs : List ℕ) → Found (35 ∷ 92 ∷ bs) (character_at bs)
character_found [] = tt
character_found (b ∷ bs) =
    let size = run_size bs in
    subst (λ n. Found (35 ∷ 92 ∷ b ∷ bs) (sized (character_of (take n (b ∷ bs))) (run_length bs + 3))) (sym (add-one (run_length bs)))
    (sized_found (35 ∷ 92 ∷ b ∷ run bs) (drop (run_length bs) bs) (35 ∷ 92 ∷ b ∷ bs) (character_of (b ∷ run bs)) (run_length bs + 3) (ap (λ xs. 35 ∷ 92 ∷ b ∷ xs) (run_whole bs))
    (omega arith) (character_word b (run bs) (drop (run_length bs) bs) (run_ends bs)))

-- a token of bytes that are known
word_at : (w rest : List ℕ) (t : Token) → Spells w t → EndsAt t rest → TokenAt (w ++ rest) t (length w)
word_at w rest t h ends = record { word = w; rest = rest; whole = refl; size = refl; spells = h; ends = ends }

hash_found : (bs : List ℕ) → Found (35 ∷ bs) (hash_at bs)
hash_found [] = tt
hash_found (b ∷ bs) =
    cond_both (b == 40) (Ok (token.OpenVector, 2)) (cond (b == 92) (character_at bs) (sized (hashed_of (run (b ∷ bs))) (run_length (b ∷ bs) + 1))) (Found (35 ∷ b ∷ bs))
    (λ e. subst (λ n. TokenAt (35 ∷ n ∷ bs) token.OpenVector 2) (sym (eqb-true b 40 e)) (word_at (codes "#(") bs token.OpenVector open_vector tt))
    (λ _. cond_both (b == 92) (character_at bs) (sized (hashed_of (run (b ∷ bs))) (run_length (b ∷ bs) + 1)) (Found (35 ∷ b ∷ bs))
    (λ e. subst (λ n. Found (35 ∷ n ∷ bs) (character_at bs)) (sym (eqb-true b 92 e)) (character_found bs)) (λ _. hashed_found b bs))

comma_found : (bs : List ℕ) → Found (44 ∷ bs) (comma_at bs)
comma_found [] = word_at (codes ",") [] (token.Mark Unquote) unquote tt
comma_found (b ∷ bs) =
    cond_both (b == 64) (Ok (token.Mark UnquoteSplicing, 2)) (Ok (token.Mark Unquote, 1)) (Found (44 ∷ b ∷ bs))
    (λ e. subst (λ n. TokenAt (44 ∷ n ∷ bs) (token.Mark UnquoteSplicing) 2) (sym (eqb-true b 64 e)) (word_at (codes ",@") bs (token.Mark UnquoteSplicing) splicing tt))
    (λ e. word_at (codes ",") (b ∷ bs) (token.Mark Unquote) unquote (eqb-false b 64 e))

-- strings: the bytes that are done stand for the characters so far
characters_joined : {a b x y : List ℕ} → Characters a x → Characters b y → Characters (a ++ b) (x ++ y)
characters_joined no_more h = h
characters_joined (plain q e g) h = plain q e (characters_joined g h)
characters_joined (escaped e g) h = escaped e (characters_joined g h)

-- the bytes that are left, with a backslash before them or not
abbrev left : Bool → List ℕ → List ℕ
left true bs = 92 ∷ bs
left false bs = bs

abbrev count_of : Bool → List ℕ → ℕ
count_of true w = length w + 1
count_of false w = length w

-- how reading goes on from any bytes that are done
abbrev GoesOn : List ℕ → Bool → Type 0
GoesOn bs escape = (done front : List ℕ) (k : ℕ) → Characters done front → length front ≤ 65535 → k ≡ count_of escape done →
    Found (34 ∷ (done ++ left escape bs)) (string_from front escape k bs)

-- one more character, of the bytes w
more_found : (done front w : List ℕ) (c : ℕ) (bs : List ℕ) (k n : ℕ) → Characters done front → length front ≤ 65535 → Characters w (c ∷ []) → k ≡ n → n ≡ length done + length w → GoesOn bs false →
    Found (34 ∷ (done ++ (w ++ bs))) (cond (nat_lt (length front) 65535) (string_from (front ++ c ∷ []) false k bs) (Err LongString))
more_found done front w c bs k n h few one k_is n_is goes =
    let all = characters_joined h one in
    let size = length-append front (c ∷ []) in
    let bytes = length-append done w in
    let same = append_assoc done w bs in
    cond_both (nat_lt (length front) 65535) (string_from (front ++ c ∷ []) false k bs) (Err LongString) (Found (34 ∷ (done ++ (w ++ bs))))
    (λ e. let less = ltb-true (length front) 65535 e in
    subst (λ xs. Found (34 ∷ xs) (string_from (front ++ c ∷ []) false k bs)) same (goes (done ++ w) (front ++ c ∷ []) k all (omega arith) (omega arith)))
    (λ e. let no_less = ltb-false (length front) 65535 e in
    subst (λ xs. Spoiled (34 ∷ xs) LongString) same (long_string bs all (omega arith)))

escape_found : (b : ℕ) (bs done front : List ℕ) (k : ℕ) → Characters done front → length front ≤ 65535 → k ≡ length done + 1 → GoesOn bs false →
    (o : Option ℕ) → escaped_of b ≡ o →
    Found (34 ∷ (done ++ 92 ∷ b ∷ bs)) (on_some o (Err (BadEscape k)) (λ c. cond (nat_lt (length front) 65535) (string_from (front ++ c ∷ []) false (k + 1) bs) (Err LongString)))
escape_found b bs done front k h few k_is goes None e =
    let n_is : 1 + length done ≡ k = omega arith in
    subst (λ n. Spoiled (34 ∷ (done ++ 92 ∷ b ∷ bs)) (BadEscape n)) n_is (bad_escape b bs h few e)
escape_found b bs done front k h few k_is goes (Some c) e =
    more_found done front (92 ∷ b ∷ []) c bs (k + 1) (length done + 2) h few (escaped e no_more) (omega arith) refl goes

plain_found : (b : ℕ) (bs done front : List ℕ) (k : ℕ) → Characters done front → length front ≤ 65535 → k ≡ length done → GoesOn bs false → GoesOn bs true →
    Found (34 ∷ (done ++ b ∷ bs)) (string_from front false k (b ∷ bs))
plain_found b bs done front k h few k_is goes escapes =
    cond_both (b == 34) (Ok (token.Str front, k + 2)) (cond (b == 92) (string_from front true (k + 1) bs) put) (Found (34 ∷ (done ++ b ∷ bs)))
    (λ e. subst (λ n. TokenAt (34 ∷ (done ++ n ∷ bs)) (token.Str front) (k + 2)) (sym (eqb-true b 34 e)) ended)
    (λ quote_not. cond_both (b == 92) (string_from front true (k + 1) bs) put (Found (34 ∷ (done ++ b ∷ bs)))
    (λ e. subst (λ n. Found (34 ∷ (done ++ n ∷ bs)) (string_from front true (k + 1) bs)) (sym (eqb-true b 92 e)) (escapes done front (k + 1) h few (omega arith)))
    (λ escape_not. more_found done front (b ∷ []) b bs (k + 1) (length done + 1) h few (plain (eqb-false b 34 quote_not) (eqb-false b 92 escape_not) no_more) (omega arith) refl goes))
  where
    put : Result (Token × ℕ) Fault
    put = cond (nat_lt (length front) 65535) (string_from (front ++ b ∷ []) false (k + 1) bs) (Err LongString)

    ended : TokenAt (34 ∷ (done ++ 34 ∷ bs)) (token.Str front) (k + 2)
    ended = let size = length-append done (34 ∷ []) in
        record { word = 34 ∷ (done ++ 34 ∷ []); rest = bs; whole = ap (λ xs. 34 ∷ xs) (sym (append_assoc done (34 ∷ []) bs)); size = omega arith; spells = text h few; ends = tt }

string_found : (bs : List ℕ) (escape : Bool) → GoesOn bs escape
string_found [] true = λ done front k h few k_is. open_escape h few
string_found [] false = λ done front k h few k_is. subst (λ xs. Spoiled (34 ∷ xs) OpenString) (sym (append-nil done)) (open_string h few)
string_found (b ∷ bs) true = λ done front k h few k_is. escape_found b bs done front k h few k_is (string_found bs false) (escaped_of b) refl
string_found (b ∷ bs) false = λ done front k h few k_is. plain_found b bs done front k h few k_is (string_found bs false) (string_found bs true)

-- one byte that is a token
one_found : (b c : ℕ) (bs : List ℕ) (t : Token) → (b == c) ≡ true → Spells (c ∷ []) t → EndsAt t bs → TokenAt (b ∷ bs) t 1
one_found b c bs t e h ends = subst (λ n. TokenAt (n ∷ bs) t 1) (sym (eqb-true b c e)) (word_at (c ∷ []) bs t h ends)

first_found : (b c : ℕ) (bs : List ℕ) (r : Result (Token × ℕ) Fault) → (b == c) ≡ true → Found (c ∷ bs) r → Found (b ∷ bs) r
first_found b c bs r e h = subst (λ n. Found (n ∷ bs) r) (sym (eqb-true b c e)) h

longer_found : (b : ℕ) (bs : List ℕ) → Found (b ∷ bs) (cond (b == 44) (comma_at bs) (cond (b == 34) (string_at bs) (cond (b == 35) (hash_at bs) (atom_at (b ∷ bs)))))
longer_found b bs =
    cond_both (b == 44) (comma_at bs) _ (Found (b ∷ bs)) (λ e. first_found b 44 bs (comma_at bs) e (comma_found bs))
    (λ _. cond_both (b == 34) (string_at bs) (cond (b == 35) (hash_at bs) (atom_at (b ∷ bs))) (Found (b ∷ bs))
    (λ e. first_found b 34 bs (string_at bs) e (string_found bs false [] [] 0 no_more (omega arith) refl))
    (λ _. cond_both (b == 35) (hash_at bs) (atom_at (b ∷ bs)) (Found (b ∷ bs)) (λ e. first_found b 35 bs (hash_at bs) e (hash_found bs)) (λ _. atom_found (b ∷ bs))))

pub found : (bs : List ℕ) → Found bs (token_at bs)
found [] = tt
found (b ∷ bs) =
    cond_both (b == 40) (Ok (token.Open, 1)) _ (Found (b ∷ bs)) (λ e. one_found b 40 bs token.Open e open_list tt)
    (λ _. cond_both (b == 41) (Ok (token.Close, 1)) _ (Found (b ∷ bs)) (λ e. one_found b 41 bs token.Close e close tt)
    (λ _. cond_both (b == 39) (Ok (token.Mark Quote, 1)) _ (Found (b ∷ bs)) (λ e. one_found b 39 bs (token.Mark Quote) e quote tt)
    (λ _. cond_both (b == 96) (Ok (token.Mark Quasiquote, 1)) _ (Found (b ∷ bs)) (λ e. one_found b 96 bs (token.Mark Quasiquote) e quasiquote tt)
    (λ _. longer_found b bs))))
