-- Small images, and bytes that are none.
use Rattle.std.specs.Prelude.{ℕ, pos, true, false, List, [], ◌∷◌, ◌++◌, None, Some, take}
use Rattle.tb_prim.specs.declared.constant.Const.{Const}
use Rattle.tb_prim.specs.declared.constant.Static.{Static}
use Rattle.tb_mac.specs.declared.code.Instr.TheVariants as I
use Rattle.tb_image.specs.Format.{Spells, Refused}
use Rattle.tb_image.specs.Images.{Imaged, image_format}

-- the name, the version, and counts: one instruction, one word, and so many places, orders and others as given
abbrev pub head : ℕ → ℕ → List ℕ
head statics places =
    0x54 ∷ 0x57 ∷ 0x4f ∷ 0x42 ∷ 0 ∷ 0 ∷ 0 ∷ 1
    ∷ 0 ∷ 0 ∷ 0 ∷ 0 ∷ 0 ∷ 0 ∷ 0 ∷ statics ∷ 0 ∷ 0 ∷ 0 ∷ 0 ∷ 0 ∷ 0 ∷ 0 ∷ 1
    ∷ 0 ∷ 0 ∷ 0 ∷ places ∷ 0 ∷ 0 ∷ 0 ∷ 0 ∷ 0 ∷ 0 ∷ 0 ∷ 1 ∷ []

-- an instruction without x, and a map of no registers and no own frame
abbrev pub instruction : ℕ → List ℕ
instruction op = op ∷ 0 ∷ 0 ∷ 0 ∷ 0 ∷ 0 ∷ 0 ∷ 0 ∷ []

abbrev pub map : List ℕ
map = 0 ∷ 0 ∷ 0 ∷ 0 ∷ 0xff ∷ 0xff ∷ []

-- a word of code and its start
abbrev pub tail : ℕ → List ℕ
tail start = 0x91 ∷ 0xd0 ∷ 0x20 ∷ 0 ∷ 0 ∷ 0 ∷ 0 ∷ start ∷ []

-- an `end`, and `ta 0`
abbrev pub ending : List ℕ
ending = head 0 0 ++ instruction 26 ++ map ++ tail 0

abbrev pub end_image : Imaged
end_image = record {
  mac = record {
    parts = record { globals = []; statics = []; lambdas = []; order = [] };
    code = I.End ∷ [];
    maps = record { regs = 0; slots = None } ∷ [];
    places = [];
  };
  sparc = record { words = 0x91d02000 ∷ []; starts = 0 ∷ [] };
}

-- a wrong name, and a wrong version
abbrev pub other_name : List ℕ
other_name = 0x54 ∷ 0x57 ∷ 0x4f ∷ 0x43 ∷ 0 ∷ 0 ∷ 0 ∷ 1 ∷ []

abbrev pub other_version : List ℕ
other_version = 0x54 ∷ 0x57 ∷ 0x4f ∷ 0x42 ∷ 0 ∷ 0 ∷ 0 ∷ 2 ∷ []

-- one instruction of this operation, with a start
abbrev pub with_instruction : ℕ → ℕ → List ℕ
with_instruction op start = head 0 0 ++ instruction op ++ map ++ tail start

-- an `end` whose field b is 1
abbrev pub used_field : List ℕ
used_field = head 0 0 ++ (26 ∷ 0 ∷ 1 ∷ 0 ∷ 0 ∷ 0 ∷ 0 ∷ 0 ∷ []) ++ map ++ tail 0

-- a place of an `end`, which cannot fail
abbrev pub placed_end : List ℕ
placed_end = head 0 1 ++ instruction 26 ++ map ++ (0 ∷ 0 ∷ 0 ∷ 0 ∷ 0 ∷ 0 ∷ 0 ∷ 0 ∷ 1 ∷ 0 ∷ 0 ∷ 0 ∷ 1 ∷ []) ++ tail 0

-- a pair of the fixnum 1 and the empty list, and a vector of an object that is not earlier
abbrev pub one_pair : List ℕ
one_pair = head 1 0 ++ (1 ∷ 0 ∷ 0 ∷ 0 ∷ 4 ∷ 0 ∷ 0 ∷ 2 ∷ 2 ∷ []) ++ instruction 26 ++ map ++ tail 0

abbrev pub pair_image : Imaged
pair_image = record {
  mac = record {
    parts = record { globals = []; statics = Static.Pair (Const.Fix (pos 1)) Const.Nil ∷ []; lambdas = []; order = [] };
    code = I.End ∷ [];
    maps = record { regs = 0; slots = None } ∷ [];
    places = [];
  };
  sparc = record { words = 0x91d02000 ∷ []; starts = 0 ∷ [] };
}

abbrev pub later_object : List ℕ
later_object = head 1 0 ++ (2 ∷ 0 ∷ 0 ∷ 0 ∷ 1 ∷ 0 ∷ 0 ∷ 0 ∷ 3 ∷ []) ++ instruction 26 ++ map ++ tail 0

-- a number of four bytes, below 256
abbrev pub four : ℕ → List ℕ
four n = 0 ∷ 0 ∷ 0 ∷ n ∷ []

-- a word of SPARC that does nothing
abbrev pub nop : List ℕ
nop = 1 ∷ 0 ∷ 0 ∷ 0 ∷ []

-- every part once: a global f, a symbol ab, a lambda at 1:5, which is lifted, `proc 0`, `args 1`, which fails at 2:3 of the
-- library, and a pointer to the symbol; slot 0 of two is live at the first, and RESULT at the second; two operands at
-- 4:6, of which this one is evaluated first and this one last
abbrev pub every_part : ℕ → ℕ → List ℕ
every_part first last =
    (0x54 ∷ 0x57 ∷ 0x4f ∷ 0x42 ∷ four 1)
    ++ (four 1 ++ four 1 ++ four 1 ++ four 3 ++ four 1 ++ four 1 ++ four 3)
    ++ (0 ∷ 1 ∷ 0x66 ∷ [])
    ++ (5 ∷ 0 ∷ 0 ∷ 0 ∷ 2 ∷ 0x61 ∷ 0x62 ∷ [])
    ++ (1 ∷ 0 ∷ 0 ∷ 0 ∷ four 0) ++ (2 ∷ 1 ∷ 0 ∷ 0 ∷ four 0) ++ (14 ∷ 1 ∷ 5 ∷ 0 ∷ four 0)
    ++ (0 ∷ 0 ∷ 0 ∷ 0 ∷ 0 ∷ 2 ∷ 1 ∷ []) ++ (0 ∷ 1 ∷ 0 ∷ 0 ∷ 0xff ∷ 0xff ∷ []) ++ map
    ++ (0 ∷ four 1) ++ four 5 ++ (1 ∷ four 0)
    ++ four 1 ++ (1 ∷ four 2) ++ four 3
    ++ (0 ∷ four 4) ++ four 6 ++ (0 ∷ 2 ∷ 0 ∷ first ∷ 0 ∷ last ∷ [])
    ++ nop ++ nop ++ nop
    ++ four 0 ++ four 1 ++ four 2

abbrev pub every_image : Imaged
every_image = record {
  mac = record {
    parts = record {
      globals = record { library = false; name = 0x66 ∷ [] } ∷ [];
      statics = Static.Sym (0x61 ∷ 0x62 ∷ []) ∷ [];
      lambdas = record { place = record { library = false; line = 1; column = 5 }; lifted = true; entry = 0 } ∷ [];
      order = record { place = record { library = false; line = 4; column = 6 }; order = 1 ∷ 0 ∷ [] } ∷ [];
    };
    code = I.Proc 0 ∷ I.Args 1 ∷ I.Stat 1 5 0 ∷ [];
    maps = record { regs = 0; slots = Some (true ∷ false ∷ []) } ∷ record { regs = 65536; slots = None } ∷ record { regs = 0; slots = None } ∷ [];
    places = record { instr = 1; place = record { library = true; line = 2; column = 3 } } ∷ [];
  };
  sparc = record { words = 0x01000000 ∷ 0x01000000 ∷ 0x01000000 ∷ []; starts = 0 ∷ 1 ∷ 2 ∷ [] };
}

pub record SmallImages : Type 0 where
  pub end : Spells image_format ending end_image
  pub pair : Spells image_format one_pair pair_image
  pub all : Spells image_format (every_part 1 0) every_image
  pub twice : Refused image_format (every_part 1 1) 129
  pub empty : Refused image_format [] 0
  pub cut_short : Refused image_format (take 57 ending) 54
  pub followed : Refused image_format (ending ++ 0 ∷ []) 58
  pub name : Refused image_format other_name 0
  pub version : Refused image_format other_version 4
  pub operation : Refused image_format (with_instruction 31 0) 36
  pub used : Refused image_format used_field 38
  pub start_behind : Refused image_format (with_instruction 26 1) 54
  pub too_few_places : Refused image_format (with_instruction 2 0) 50
  pub no_such_place : Refused image_format placed_end 50
  pub later_object : Refused image_format later_object 41
