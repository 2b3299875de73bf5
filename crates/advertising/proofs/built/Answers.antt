-- What is behind the filter stays zero.
use Rattle.advertising.proofs.Laws.{kept_built}
use Rattle.advertising.proofs.built.Goals as goal

pub returns : goal.returns
returns c = kept_built c.args.keys c.requires c.args.salt c.filter_size.ensures c.build_filter.ensures
