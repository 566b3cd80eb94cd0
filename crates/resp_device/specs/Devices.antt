-- What is seen of a device.
use Rattle.std.specs.Prelude.{ℕ, Bool, List, Option}
use Rattle.std.specs.declared.random_state.RandomState.{RandomState}
use Rattle.far_device.specs.DeviceState.{DeviceState, Contents}
use Rattle.resp_device.specs.declared.device.RespDevice.{RespDevice}
use Rattle.resp_device.specs.declared.fault.StoreFailure.{StoreFailure}
use Rattle.resp_device.specs.Objects.{contents_of}
use Rattle.resp_device.specs.Wire.{key_of}

module _ {P : Type 0} where
  -- the bytes of each id
  abbrev pub contents_in : RespDevice P → Contents
  contents_in device = contents_of device.index.objects.entries

  abbrev pub state_in : RespDevice P → DeviceState
  state_in device = record { contents = contents_in device; failures = device.failures.count }

  -- the keys of the digests
  abbrev pub keys_in : RespDevice P → RandomState
  keys_in device = device.keys

  abbrev pub pipes_in : RespDevice P → P
  pipes_in device = device.link.pipes

  -- whether its pipes can be used
  abbrev pub is_live_in : RespDevice P → Bool
  is_live_in device = device.link.live

  -- why the last call failed that did
  abbrev pub last_in : RespDevice P → Option StoreFailure
  last_in device = device.failures.last

  -- the number that its keys in the store begin with
  abbrev pub prefix_in : RespDevice P → ℕ
  prefix_in device = device.requests.prefix

  -- an id's key in the store
  abbrev pub key_in : RespDevice P → ℕ → List ℕ
  key_in device id = key_of device.requests.prefix device.requests.lane id
