-- The data that a text spells are data that reading gives.
use Rattle.std.proofs.Common.{◌≡◌, ◌≢◌, ℕ, suc, ◌<◌, ◌≤◌, Bool, true, List, [], ◌∷◌, ◌++◌, length, Some, None, refl, subst, arith}
use Rattle.std.specs.Prelude.{◌==◌}
use Rattle.std.specs.List.{All, AllByRecursion}
use Rattle.std.proofs.lemmas.Bool.{cond_both}
use Rattle.std.proofs.lemmas.List.Elements.{All-from_recursion}
use Rattle.std.proofs.lemmas.Option.{same_Some}
use Rattle.tb_prim.specs.declared.place.Place.{Place}
use Rattle.tb_prim.specs.Fixnums.{is_fixnum}
use Rattle.tb_sexp.specs.declared.token.Mark.{Mark}
use Rattle.tb_sexp.specs.declared.token.Mark.TheVariants.{Quote, Quasiquote, Unquote, UnquoteSplicing}
use Rattle.tb_sexp.specs.declared.token.Token.{Token}
use Rattle.tb_sexp.specs.declared.token.Token.TheVariants as token
use Rattle.tb_sexp.specs.ListShapes.{name_of_mark, list_of, front_of, dotted}
use Rattle.tb_sexp.specs.Grammar.{Placed, placed, Atom, of_bool, of_fix, of_char, of_str, of_name, IsDatum, an_atom, a_mark, a_list, a_dotted_list, a_vector, AreData, no_data, more_data}
use Rattle.tb_sexp.specs.Bytes.{escaped_of}
use Rattle.tb_sexp.specs.ReadData.{AreBytes, IsReadName, IsRead, read_nil, read_truth, read_fixnum, read_character, read_string, read_name, read_list, read_dotted, read_vector, AreRead, no_read, more_read}
use Rattle.tb_sexp.specs.Texts.{Begins, no_tokens, one_token, IsText}
use Rattle.tb_sexp.specs.Tokens.{Characters, no_more, plain, escaped, Spells, open_list, open_vector, close, quote, quasiquote, unquote, splicing, dot, truth, falsity, number, name, one_byte, space, newline, text}
use Rattle.tb_sexp.specs.Tree.{Tree, At, Shape, Trees}
use Rattle.tb_sexp.specs.View.{trees}
use Rattle.tb_sexp.proofs.RoundTripFolds.{folded_name}

-- what holds of each element of two lists
module _ {X : Type 0} (P : X → Type 0) where
  all_front : (xs ys : List X) → AllByRecursion P (xs ++ ys) → AllByRecursion P xs
  all_front [] ys h = tt
  all_front (x ∷ xs) ys h = (h.0, all_front xs ys h.1)

  all_back : (xs ys : List X) → AllByRecursion P (xs ++ ys) → AllByRecursion P ys
  all_back [] ys h = h
  all_back (x ∷ xs) ys h = all_back xs ys h.1

-- what reading a token gives
abbrev TokenRead : Token → Type 0
TokenRead token.Open = Unit {0}
TokenRead token.OpenVector = Unit {0}
TokenRead token.Close = Unit {0}
TokenRead (token.Mark m) = Unit {0}
TokenRead token.Dot = Unit {0}
TokenRead (token.Bool b) = Unit {0}
TokenRead (token.Fix z) = is_fixnum z ≡ true
TokenRead (token.Char c) = c < 256
TokenRead (token.Str s) = AreBytes s × (length s ≤ 65535)
TokenRead (token.Name s) = IsReadName s

abbrev PlacedRead : Placed → Type 0
PlacedRead x = TokenRead x.token

escape_read : (b c : ℕ) → escaped_of b ≡ Some c → c < 256
escape_read b c =
    cond_both (b == 34) (Some 34) _ (λ o. o ≡ Some c → c < 256) (λ e h. is 34 h (omega arith))
    (λ e. cond_both (b == 92) (Some 92) _ (λ o. o ≡ Some c → c < 256) (λ e h. is 92 h (omega arith))
    (λ e. cond_both (b == 110) (Some 10) _ (λ o. o ≡ Some c → c < 256) (λ e h. is 10 h (omega arith))
    (λ e. cond_both (b == 116) (Some 9) None (λ o. o ≡ Some c → c < 256) (λ e h. is 9 h (omega arith)) (λ e h. cc))))
  where
    is : (n : ℕ) → Some n ≡ Some c → n < 256 → c < 256
    is n h lt = subst (λ m. m < 256) (same_Some n c h) lt

characters_read : {w cs : List ℕ} → Characters w cs → AreBytes w → AreBytes cs
characters_read no_more h = tt
characters_read (plain q e next) h = (h.0, characters_read next h.1)
characters_read (escaped {b} {c} e next) h = (escape_read b c e, characters_read next h.1.1)

token_read : {w : List ℕ} {t : Token} → Spells w t → AreBytes w → TokenRead t
token_read open_list h = tt
token_read open_vector h = tt
token_read close h = tt
token_read quote h = tt
token_read quasiquote h = tt
token_read unquote h = tt
token_read splicing h = tt
token_read dot h = tt
token_read (truth e) h = tt
token_read (falsity e) h = tt
token_read (number num fits) h = fits
token_read (name {w} is short) h = folded_name w is short
token_read one_byte h = h.1.1.0
token_read (space e) h = omega arith
token_read (newline e) h = omega arith
token_read (text {w} chars few) h = (characters_read chars (all_front (λ b. b < 256) w (34 ∷ []) h.1), few)

tokens_read : {p q : Place} {bs left : List ℕ} {ts : List Placed} → Begins p bs ts q left → AreBytes bs → AllByRecursion PlacedRead ts
tokens_read no_tokens h = tt
tokens_read (one_token front word rest t blank spells ends next) h =
    let behind = all_back (λ b. b < 256) front (word ++ rest) h in
    (token_read spells (all_front (λ b. b < 256) word rest behind), tokens_read next (all_back (λ b. b < 256) word rest behind))

-- data where a level more is left
mutual
  deeper : {n : ℕ} {d : Tree} → IsRead n d → IsRead (suc n) d
  deeper read_nil = read_nil
  deeper read_truth = read_truth
  deeper (read_fixnum h) = read_fixnum h
  deeper (read_character h) = read_character h
  deeper (read_string h few) = read_string h few
  deeper (read_name h) = read_name h
  deeper (read_list x) = read_list (all_deeper x)
  deeper (read_dotted x y e) = read_dotted (all_deeper x) (deeper y) e
  deeper (read_vector x) = read_vector (all_deeper x)

  all_deeper : {n : ℕ} {ds : Trees} → AreRead n ds → AreRead (suc n) ds
  all_deeper no_read = no_read
  all_deeper (more_read x xs) = more_read (deeper x) (all_deeper xs)

-- lists
front_read : {n : ℕ} (ds : List Tree) {es : Trees} → AreRead n (trees ds) → AreRead n es → AreRead n (front_of ds es)
front_read [] h next = next
front_read (d ∷ ds) (more_read x xs) next = more_read x (front_read ds xs next)

list_read : {n : ℕ} {p : Place} (ds : List Tree) → AreRead n (trees ds) → IsRead (suc n) (At p (list_of ds))
list_read [] h = read_nil
list_read (d ∷ ds) h = read_list h

tail_read : {n : ℕ} {p : Place} (d : Tree) (ds : List Tree) {e : Tree} → AreRead n (trees (d ∷ ds)) → IsRead n e → IsRead (suc n) (At p (dotted (d ∷ ds) e))
tail_read d ds h read_nil = read_list h
tail_read d ds h read_truth = read_dotted h read_truth refl
tail_read d ds h (read_fixnum x) = read_dotted h (read_fixnum x) refl
tail_read d ds h (read_character x) = read_dotted h (read_character x) refl
tail_read d ds h (read_string x few) = read_dotted h (read_string x few) refl
tail_read d ds h (read_name x) = read_dotted h (read_name x) refl
tail_read d ds h (read_list x) = read_list (front_read (d ∷ ds) h (all_deeper x))
tail_read d ds h (read_dotted x y e) = read_dotted (front_read (d ∷ ds) h (all_deeper x)) (deeper y) e
tail_read d ds h (read_vector x) = read_dotted h (read_vector x) refl

dotted_read : {n : ℕ} {p : Place} (ds : List Tree) {e : Tree} → ds ≢ [] → AreRead n (trees ds) → IsRead n e → IsRead (suc n) (At p (dotted ds e))
dotted_read [] some h x = absurd (some refl)
dotted_read (d ∷ ds) some h x = tail_read d ds h x

-- marks
mark_name : (m : Mark) → IsReadName (name_of_mark m)
mark_name Quote = record { identifier = refl; short = omega arith; lower = refl }
mark_name Quasiquote = record { identifier = refl; short = omega arith; lower = refl }
mark_name Unquote = record { identifier = refl; short = omega arith; lower = refl }
mark_name UnquoteSplicing = record { identifier = refl; short = omega arith; lower = refl }

atom_read : {n : ℕ} {p : Place} {t : Token} {s : Shape} → Atom t s → TokenRead t → IsRead n (At p s)
atom_read of_bool h = read_truth
atom_read of_fix h = read_fixnum h
atom_read of_char h = read_character h
atom_read of_str h = read_string h.0 h.1
atom_read of_name h = read_name h

mutual
  datum_read : {n : ℕ} {ts : List Placed} {d : Tree} → IsDatum n ts d → AllByRecursion PlacedRead ts → IsRead n d
  datum_read (an_atom a) h = atom_read a h.0
  datum_read (a_mark {m = m} x) h = read_list (more_read (read_name (mark_name m)) (more_read (datum_read x h.1) no_read))
  datum_read (a_list {ts = ts} {ds = ds} q x) h = list_read ds (data_read x (all_front PlacedRead ts (placed q token.Close ∷ []) h.1))
  datum_read (a_dotted_list {ts = ts} {us = us} {ds = ds} q r x some y) h =
      let behind = all_back PlacedRead ts (placed q token.Dot ∷ (us ++ placed r token.Close ∷ [])) h.1 in
      dotted_read ds some (data_read x (all_front PlacedRead ts (placed q token.Dot ∷ (us ++ placed r token.Close ∷ [])) h.1))
      (datum_read y (all_front PlacedRead us (placed r token.Close ∷ []) behind.1))
  datum_read (a_vector {ts = ts} q x) h = read_vector (data_read x (all_front PlacedRead ts (placed q token.Close ∷ []) h.1))

  data_read : {n : ℕ} {ts : List Placed} {ds : List Tree} → AreData n ts ds → AllByRecursion PlacedRead ts → AreRead n (trees ds)
  data_read no_data h = no_read
  data_read (more_data {ts = ts} {us = us} x more_of) h = more_read (datum_read x (all_front PlacedRead ts us h)) (data_read more_of (all_back PlacedRead ts us h))

each_read : {n : ℕ} (ds : List Tree) → AreRead n (trees ds) → AllByRecursion (λ d. IsRead n d) ds
each_read [] h = tt
each_read (d ∷ ds) (more_read x xs) = (x, each_read ds xs)

pub read_data : (library : Bool) (bytes : List ℕ) (ds : List Tree) → AreBytes bytes → IsText library bytes ds → All (λ d. IsRead 256 d) ds
read_data library bytes ds h x = All-from_recursion (λ d. IsRead 256 d) ds (each_read ds (data_read x.spelled (tokens_read x.read.begins h)))
