-- The one printed text of a datum.
use Rattle.std.specs.Prelude.{ℕ, ◌==◌, ◌||◌, Bool, true, false, cond, List, [], ◌∷◌, ◌++◌, codes}
use Rattle.std.specs.Fmt.{signed_decimal}
use Rattle.tb_sexp.specs.Tree.{Tree, At, Shape, Nil, Truth, Fixnum, Character, String, Name, Proper, Dotted, Vector, Trees, none, more}

abbrev pub printed_truth : Bool → List ℕ
printed_truth true = codes "#t"
printed_truth false = codes "#f"

-- space (32) and newline (10) have names, and another character stands for itself
abbrev pub printed_character : ℕ → List ℕ
printed_character c = cond (c == 32) (codes "#\\space") (cond (c == 10) (codes "#\\newline") (35 ∷ 92 ∷ c ∷ []))

-- a quote (34) or a backslash (92) in a string has a backslash before it
abbrev pub printed_byte : ℕ → List ℕ
printed_byte b = cond ((b == 34) || (b == 92)) (92 ∷ b ∷ []) (b ∷ [])

abbrev pub printed_bytes : List ℕ → List ℕ
printed_bytes [] = []
printed_bytes (b ∷ bs) = printed_byte b ++ printed_bytes bs

-- a datum, and data, the first after `lead` and each of the others after one space; an alias is not printed
abbrev mutual
  pub printed : Tree → List ℕ
  printed (At p s) = printed_shape s

  pub printed_shape : Shape → List ℕ
  printed_shape Nil = codes "()"
  printed_shape (Truth b) = printed_truth b
  printed_shape (Fixnum n) = signed_decimal n
  printed_shape (Character c) = printed_character c
  printed_shape (String s) = codes "\"" ++ (printed_bytes s ++ codes "\"")
  printed_shape (Name s alias) = s
  printed_shape (Proper ds) = codes "(" ++ (printed_all [] ds ++ codes ")")
  printed_shape (Dotted ds d) = codes "(" ++ (printed_all [] ds ++ (codes " . " ++ (printed d ++ codes ")")))
  printed_shape (Vector ds) = codes "#(" ++ (printed_all [] ds ++ codes ")")

  pub printed_all : List ℕ → Trees → List ℕ
  printed_all lead none = []
  printed_all lead (more d ds) = lead ++ (printed d ++ printed_all (codes " ") ds)
