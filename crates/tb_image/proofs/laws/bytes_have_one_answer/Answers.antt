use Rattle.tb_image.specs.Images.{image_format}
use Rattle.tb_image.proofs.Formats.{one_answer, one_offset, one_value, some_answer}
use Rattle.tb_image.proofs.laws.bytes_have_one_answer.Goals as goal

pub returns : goal.returns
returns c =
    record {
      some = some_answer image_format;
      one = one_answer image_format;
      value = one_value image_format;
      offset = one_offset image_format;
    }
