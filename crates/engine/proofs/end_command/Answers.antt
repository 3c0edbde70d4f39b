use Rattle.completion.specs.Completions.{completion_by}
use Rattle.engine.specs.Engine.{Input}
use Rattle.engine.specs.Facts.{state_of}
use Rattle.engine.proofs.Laws.{applied_steps, effect_fits}
use Rattle.engine.proofs.end_command.Goals as goal

pub apply-requires : goal.apply-requires
apply-requires c = let a = c.args in simp c.end_by-effect.ensures (effect_fits (state_of a.m a.cnv.now a.seq.now) (Input.completion a.kind a.number (completion_by a.done a.given a.bytes.now)))

pub returns : goal.returns
returns c = let a = c.args in applied_steps a.m a.cnv.now a.seq.now (Input.completion a.kind a.number (completion_by a.done a.given a.bytes.now)) c.end_by-effect.ensures c.apply.ensures
