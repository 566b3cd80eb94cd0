use Rattle.std.proofs.Common.{pos, refl}
use Rattle.resp.specs.Replies.{Number, String}
use Rattle.server_commands.proofs.Growing.{one_reply, even_is_one}
use Rattle.far_server.proofs.Pushed.{on_ok}
use Rattle.far_server.proofs.info.answer_server.Goals as goal

pub returns-in-CommandCount-clause-said : goal.returns-in-CommandCount-clause-said
returns-in-CommandCount-clause-said g c = on_ok c.command_count.result (λ is. one_reply (Number (pos _)) c.args.reply.now.items c.command_count.new.out.items refl is) c.command_count.ensures.done

pub returns-in-ConfigGet-clause-said : goal.returns-in-ConfigGet-clause-said
returns-in-ConfigGet-clause-said g c = on_ok c.config_get.result (λ p. even_is_one c.args.reply.now.items c.config_get.new.out.items p) c.config_get.ensures.done

pub returns-in-SlowLogLen-clause-said : goal.returns-in-SlowLogLen-clause-said
returns-in-SlowLogLen-clause-said g c = on_ok c.slow_log_len.result (λ is. one_reply (Number (pos _)) c.args.reply.now.items c.slow_log_len.new.out.items refl is) c.slow_log_len.ensures.done

pub returns-in-Info-clause-said : goal.returns-in-Info-clause-said
returns-in-Info-clause-said g c = on_ok c.info.result (λ said. one_reply (String said.0) c.args.reply.now.items c.info.new.out.items refl said.1) c.info.ensures.text
