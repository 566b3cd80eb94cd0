-- The names of commands, in lower case, and the index of each one's entry in the table.
use Rattle.std.specs.Prelude.{ℕ, List, codes}
use Rattle.commands.specs.declared.name.OfNothing.{OfNothing}
use Rattle.commands.specs.declared.name.OfNothing.TheVariants as of_nothing
use Rattle.commands.specs.declared.name.OfKey.{OfKey}
use Rattle.commands.specs.declared.name.OfKey.TheVariants as of_key
use Rattle.commands.specs.declared.name.OfKeys.{OfKeys}
use Rattle.commands.specs.declared.name.OfKeys.TheVariants as of_keys
use Rattle.commands.specs.declared.name.OfPair.{OfPair}
use Rattle.commands.specs.declared.name.OfPair.TheVariants as of_pair
use Rattle.commands.specs.declared.name.OfNumber.{OfNumber}
use Rattle.commands.specs.declared.name.OfNumber.TheVariants as of_number
use Rattle.commands.specs.declared.name.Special.{Special}
use Rattle.commands.specs.declared.name.Special.TheVariants as special
use Rattle.commands.specs.declared.server_name.OfServer.{OfServer}
use Rattle.commands.specs.declared.server_name.OfServer.TheVariants as of_server
use Rattle.commands.specs.declared.name.Name.{Name}
use Rattle.commands.specs.declared.name.Name.TheVariants as name

-- ---- the index of its entry, from 0

abbrev pub nothing_index : OfNothing → ℕ
nothing_index of_nothing.Multi = 35
nothing_index of_nothing.Exec = 36
nothing_index of_nothing.Discard = 37
nothing_index of_nothing.Reset = 52
nothing_index of_nothing.DbSize = 40
nothing_index of_nothing.RandomKey = 39

abbrev pub key_index : OfKey → ℕ
key_index of_key.Get = 0
key_index of_key.GetDel = 18
key_index of_key.StrLen = 16
key_index of_key.Ttl = 7
key_index of_key.PTtl = 28
key_index of_key.ExpireTime = 32
key_index of_key.PExpireTime = 33
key_index of_key.Persist = 34
key_index of_key.TypeOf = 27

abbrev pub keys_index : OfKeys → ℕ
keys_index of_keys.Del = 2
keys_index of_keys.Unlink = 25
keys_index of_keys.Exists = 3
keys_index of_keys.Touch = 26
keys_index of_keys.MGet = 4

abbrev pub pair_index : OfPair → ℕ
pair_index of_pair.SetNx = 9
pair_index of_pair.GetSet = 17
pair_index of_pair.Append = 15

abbrev pub number_index : OfNumber → ℕ
number_index of_number.IncrBy = 12
number_index of_number.GetBit = 21

abbrev pub special_index : Special → ℕ
special_index special.Set = 1
special_index special.GetEx = 19
special_index special.SetEx = 8
special_index special.PSetEx = 24
special_index special.GetRange = 20
special_index special.SetRange = 22
special_index special.Incr = 5
special_index special.Decr = 13
special_index special.DecrBy = 14
special_index special.IncrByFloat = 23
special_index special.MSet = 11
special_index special.Expire = 6
special_index special.PExpire = 29
special_index special.ExpireAt = 30
special_index special.PExpireAt = 31
special_index special.Ping = 10
special_index special.Echo = 41
special_index special.Quit = 53

abbrev pub server_index : OfServer → ℕ
server_index of_server.Auth = 42
server_index of_server.Hello = 43
server_index of_server.Select = 44
server_index of_server.Client = 45
server_index of_server.Command = 46
server_index of_server.Config = 47
server_index of_server.SlowLog = 49
server_index of_server.Info = 48
server_index of_server.Scan = 38
server_index of_server.FlushAll = 50
server_index of_server.FlushDb = 51

abbrev pub index_of : Name → ℕ
index_of (name.Nothing x) = nothing_index x
index_of (name.Key x) = key_index x
index_of (name.Keys x) = keys_index x
index_of (name.Pair x) = pair_index x
index_of (name.Number x) = number_index x
index_of (name.Special x) = special_index x
index_of (name.Server x) = server_index x

-- ---- its text

abbrev pub nothing_text : OfNothing → List ℕ
nothing_text of_nothing.Multi = codes "multi"
nothing_text of_nothing.Exec = codes "exec"
nothing_text of_nothing.Discard = codes "discard"
nothing_text of_nothing.Reset = codes "reset"
nothing_text of_nothing.DbSize = codes "dbsize"
nothing_text of_nothing.RandomKey = codes "randomkey"

abbrev pub key_text : OfKey → List ℕ
key_text of_key.Get = codes "get"
key_text of_key.GetDel = codes "getdel"
key_text of_key.StrLen = codes "strlen"
key_text of_key.Ttl = codes "ttl"
key_text of_key.PTtl = codes "pttl"
key_text of_key.ExpireTime = codes "expiretime"
key_text of_key.PExpireTime = codes "pexpiretime"
key_text of_key.Persist = codes "persist"
key_text of_key.TypeOf = codes "type"

abbrev pub keys_text : OfKeys → List ℕ
keys_text of_keys.Del = codes "del"
keys_text of_keys.Unlink = codes "unlink"
keys_text of_keys.Exists = codes "exists"
keys_text of_keys.Touch = codes "touch"
keys_text of_keys.MGet = codes "mget"

abbrev pub pair_text : OfPair → List ℕ
pair_text of_pair.SetNx = codes "setnx"
pair_text of_pair.GetSet = codes "getset"
pair_text of_pair.Append = codes "append"

abbrev pub number_text : OfNumber → List ℕ
number_text of_number.IncrBy = codes "incrby"
number_text of_number.GetBit = codes "getbit"

abbrev pub special_text : Special → List ℕ
special_text special.Set = codes "set"
special_text special.GetEx = codes "getex"
special_text special.SetEx = codes "setex"
special_text special.PSetEx = codes "psetex"
special_text special.GetRange = codes "getrange"
special_text special.SetRange = codes "setrange"
special_text special.Incr = codes "incr"
special_text special.Decr = codes "decr"
special_text special.DecrBy = codes "decrby"
special_text special.IncrByFloat = codes "incrbyfloat"
special_text special.MSet = codes "mset"
special_text special.Expire = codes "expire"
special_text special.PExpire = codes "pexpire"
special_text special.ExpireAt = codes "expireat"
special_text special.PExpireAt = codes "pexpireat"
special_text special.Ping = codes "ping"
special_text special.Echo = codes "echo"
special_text special.Quit = codes "quit"

abbrev pub server_text : OfServer → List ℕ
server_text of_server.Auth = codes "auth"
server_text of_server.Hello = codes "hello"
server_text of_server.Select = codes "select"
server_text of_server.Client = codes "client"
server_text of_server.Command = codes "command"
server_text of_server.Config = codes "config"
server_text of_server.SlowLog = codes "slowlog"
server_text of_server.Info = codes "info"
server_text of_server.Scan = codes "scan"
server_text of_server.FlushAll = codes "flushall"
server_text of_server.FlushDb = codes "flushdb"

abbrev pub text_of : Name → List ℕ
text_of (name.Nothing x) = nothing_text x
text_of (name.Key x) = key_text x
text_of (name.Keys x) = keys_text x
text_of (name.Pair x) = pair_text x
text_of (name.Number x) = number_text x
text_of (name.Special x) = special_text x
text_of (name.Server x) = server_text x
