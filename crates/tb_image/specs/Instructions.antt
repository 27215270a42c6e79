-- The instructions of an image: an operation, a, b and c, one byte each, and x, four bytes.
use Rattle.std.specs.Prelude.{ℕ, ◌+◌, ◌-◌, ◌*◌, ◌==◌, ◌&&◌, ◌||◌, Bool, false, nat_le, nat_lt, List, [], ◌∷◌, is_some, slice_get}
use Rattle.tb_prim.specs.declared.constant.Static.{Static}
use Rattle.tb_prim.specs.Primitives.{arity_at}
use Rattle.tb_mac.specs.declared.code.Instr.{Instr}
use Rattle.tb_mac.specs.declared.code.Instr.TheVariants as I
use Rattle.tb_mac.specs.Rules.{tag_at}
use Rattle.tb_mac.specs.Words.{imm_word, on_some}
use Rattle.tb_image.specs.Format.{Format, done}
use Rattle.tb_image.specs.Numbers.{any, number}

-- how much of each thing an image says that it has
pub record Counts : Type 0 where
  pub globals : ℕ
  pub statics : ℕ
  pub lambdas : ℕ
  pub code : ℕ
  pub places : ℕ
  pub orders : ℕ
  pub words : ℕ

-- the rules of the fields of an operation, c and x by what b is, and its instruction
pub record Shape : Type 0 where
  pub a : ℕ → Bool
  pub b : ℕ → Bool
  pub c : ℕ → ℕ → Bool
  pub x : ℕ → ℕ → Bool
  pub make : ℕ → ℕ → ℕ → ℕ → Instr

abbrev pub shape : (ℕ → Bool) → (ℕ → Bool) → (ℕ → Bool) → (ℕ → Bool) → (ℕ → ℕ → ℕ → ℕ → Instr) → Shape
shape a b c x make = record { a = a; b = b; c = λ high. c; x = λ tag. x; make = make }

-- a field without a meaning is 0
abbrev pub unused : ℕ → Bool
unused n = n == 0

abbrev pub register : ℕ → Bool
register n = nat_le n 16

abbrev pub below : ℕ → ℕ → Bool
below most n = nat_lt n most

-- a slot or a captured word
abbrev pub index : ℕ → Bool
index n = nat_lt n 1000

abbrev pub immediate : ℕ → Bool
immediate x = is_some (imm_word x)

-- a primitive of so many operands
abbrev pub primitive : ℕ → ℕ → Bool
primitive n x = on_some (arity_at x) false (λ m. m == n)

-- a pointer's tag: of a pair, a vector, a string or symbol
abbrev pub is_tag : ℕ → Bool
is_tag b = (b == 1) || ((b == 3) || (b == 5))

-- the static object of this number has this tag
abbrev pub has_tag : List Static → ℕ → ℕ → Bool
has_tag statics tag n = on_some (tag_at statics n) false (λ t. t == tag)

-- a pointer to a static object
abbrev pub stat_shape : List Static → Shape
stat_shape statics = record { a = register; b = is_tag; c = λ tag. unused; x = has_tag statics; make = λ a b c x. I.Stat a b x }

-- a new procedure with 256 * b + c captured words, at most 1,000
abbrev pub clo_shape : Counts → Shape
clo_shape k = record {
  a = register;
  b = λ b. nat_le (256 * b) 1000;
  c = λ b c. nat_le (256 * b + c) 1000;
  x = λ b. below k.code;
  make = λ a b c x. I.Clo a (256 * b + c) x;
}

-- the operations in the order of their numbers, from 1 on
abbrev pub shapes : Counts → List Static → List Shape
shapes k statics =
    shape unused unused unused (below k.lambdas) (λ a b c x. I.Proc x)
    ∷ shape (λ a. nat_le a 12) unused unused unused (λ a b c x. I.Args a)
    ∷ shape (λ a. nat_le a 11) unused unused unused (λ a b c x. I.ArgsGe a)
    ∷ shape unused unused unused (λ x. nat_le x 1000) (λ a b c x. I.Save x)
    ∷ shape unused unused unused (below k.code) (λ a b c x. I.SetRtn x)
    ∷ shape register unused unused index (λ a b c x. I.Load a x)
    ∷ shape register unused unused index (λ a b c x. I.Store a x)
    ∷ shape unused unused unused any (λ a b c x. I.Pop x)
    ∷ shape unused unused unused unused (λ a b c x. I.Return)
    ∷ shape (λ a. nat_le a 12) unused unused unused (λ a b c x. I.Invoke a)
    ∷ shape unused unused unused (below k.code) (λ a b c x. I.Jump x)
    ∷ shape register unused unused (below k.code) (λ a b c x. I.Brf a x)
    ∷ shape register unused unused immediate (λ a b c x. I.Imm a x)
    ∷ stat_shape statics
    ∷ shape register register unused unused (λ a b c x. I.Move a b)
    ∷ shape register unused unused (below k.globals) (λ a b c x. I.GlobalGet a x)
    ∷ shape register unused unused (below k.globals) (λ a b c x. I.GlobalSet a x)
    ∷ shape register unused unused (below k.globals) (λ a b c x. I.GlobalDef a x)
    ∷ shape register register unused unused (λ a b c x. I.Cell a b)
    ∷ shape register register unused unused (λ a b c x. I.CellGet a b)
    ∷ shape register register unused unused (λ a b c x. I.CellSet a b)
    ∷ clo_shape k
    ∷ shape register register unused index (λ a b c x. I.Capt a b x)
    ∷ shape register register unused index (λ a b c x. I.CaptSet a b x)
    ∷ shape unused unused unused unused (λ a b c x. I.Apply)
    ∷ shape unused unused unused unused (λ a b c x. I.End)
    ∷ shape register unused unused (primitive 0) (λ a b c x. I.Op0 a x)
    ∷ shape register register unused (primitive 1) (λ a b c x. I.Op1 a b x)
    ∷ shape register register register (primitive 2) (λ a b c x. I.Op2 a b c x)
    ∷ shape register register register (primitive 3) (λ a b c x. I.Op3 a b c x)
    ∷ []

-- an operation of no number
abbrev pub no_shape : Shape
no_shape = shape unused unused unused unused (λ a b c x. I.End)

abbrev pub shape_of : Counts → List Static → ℕ → Shape
shape_of k statics op = on_some (slice_get (shapes k statics) (op - 1)) no_shape (λ s. s)

abbrev pub instruction_format : Counts → List Static → Format Instr
instruction_format k statics =
    number 1 (λ op. nat_le 1 op && nat_le op 30) (λ op. let s = shape_of k statics op in
    number 1 s.a (λ a.
    number 1 s.b (λ b.
    number 1 (s.c b) (λ c.
    number 4 (s.x b) (λ x.
    done (s.make a b c x))))))
