use Rattle.tb_expand.proofs.SitesApart.{sites_apart}
use Rattle.tb_expand.proofs.laws.sites_are_apart.Goals as goal

pub returns : goal.returns
returns c = sites_apart
