-- Whatever is read is ready.
use Rattle.std.proofs.Common.{rules}
use Rattle.replayer.proofs.ReadsBack.{unpacked_ready}
use Rattle.replayer.specs.Calls.{unpacked_stream}
use Rattle.replayer.proofs.unpack.unpack.Goals as goal

pub returns-clause-ready : goal.returns-clause-ready
unfolding unpacked_stream
returns-clause-ready c =
    unpacked_ready c.args.from _ (search rules)
