-- One law for each way out: `script_none`, `script_is`.
use Rattle.script_format.specs.Reading.{setup_read}
use Rattle.script.proofs.Ways.{script_none, script_is}
use Rattle.script.proofs.pool_script.Goals as goal

pub returns-in_default : goal.returns-in_default
returns-in_default c =
    script_none _ _ c.in_default.ensures

pub on_device-requires : goal.on_device-requires
on_device-requires c =
    setup_read _ _ c.in-Some.ensures

pub returns : goal.returns
returns c =
    script_is _ _ _ _ c.in-Some.ensures c.on_device.ensures
