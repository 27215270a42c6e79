use Rattle.tb_expand.proofs.CountedObjects.{few_objects, few_words}
use Rattle.tb_expand.proofs.laws.texts_make_few_statics.Goals as goal

pub returns-clause-objects : goal.returns-clause-objects
returns-clause-objects c = few_objects

pub returns-clause-words : goal.returns-clause-words
returns-clause-words c = few_words
