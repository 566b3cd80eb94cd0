use Rattle.command_file.proofs.side_by_side.+parts.Goals as goal

pub returns : goal.returns
returns g t c =
    c.together.ensures c.args.bytes.now c.cut_behind.result.0.now c.cut_behind.result.1.now c.args.from c.cut_behind.ensures.cut c.join-last.ensures.second c.join-last.ensures.first
