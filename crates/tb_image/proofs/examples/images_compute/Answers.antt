use Rattle.std.proofs.Common.{refl, ◌++◌, [], ◌∷◌, take}
use Rattle.tb_image.specs.Images.{image_format}
use Rattle.tb_image.specs.Examples as E
use Rattle.tb_image.proofs.Answers.{Value, Wrong, said}
use Rattle.tb_image.proofs.examples.images_compute.Goals as goal

pub returns : goal.returns
returns c =
    record {
      end = said image_format E.ending (Value E.end_image) refl;
      pair = said image_format E.one_pair (Value E.pair_image) refl;
      all = said image_format (E.every_part 1 0) (Value E.every_image) refl;
      twice = said image_format (E.every_part 1 1) (Wrong 129) refl;
      empty = said image_format [] (Wrong 0) refl;
      cut_short = said image_format (take 57 E.ending) (Wrong 54) refl;
      followed = said image_format (E.ending ++ 0 ∷ []) (Wrong 58) refl;
      name = said image_format E.other_name (Wrong 0) refl;
      version = said image_format E.other_version (Wrong 4) refl;
      operation = said image_format (E.with_instruction 31 0) (Wrong 36) refl;
      used = said image_format E.used_field (Wrong 38) refl;
      start_behind = said image_format (E.with_instruction 26 1) (Wrong 54) refl;
      too_few_places = said image_format (E.with_instruction 2 0) (Wrong 50) refl;
      no_such_place = said image_format E.placed_end (Wrong 50) refl;
      later_object = said image_format E.later_object (Wrong 41) refl;
    }
