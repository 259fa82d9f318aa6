-- For `members::Name::later_begin`: what it returns is right.
use Rattle.std.proofs.Common.{codes, refl}
use Rattle.dump_json.proofs.Written.{BeginsMember-plain}
use Rattle.dump_json.proofs.members.Name.later_begin.Goals as goal

pub returns-in-Blocks : goal.returns-in-Blocks
returns-in-Blocks c = BeginsMember-plain (codes "blocks") refl

pub returns-in-Class : goal.returns-in-Class
returns-in-Class c = BeginsMember-plain (codes "class") refl

pub returns-in-Code : goal.returns-in-Code
returns-in-Code c = BeginsMember-plain (codes "code") refl

pub returns-in-Constructed : goal.returns-in-Constructed
returns-in-Constructed c = BeginsMember-plain (codes "constructed") refl

pub returns-in-Depth : goal.returns-in-Depth
returns-in-Depth c = BeginsMember-plain (codes "depth") refl

pub returns-in-Fault : goal.returns-in-Fault
returns-in-Fault c = BeginsMember-plain (codes "fault") refl

pub returns-in-Field : goal.returns-in-Field
returns-in-Field c = BeginsMember-plain (codes "field") refl

pub returns-in-File : goal.returns-in-File
returns-in-File c = BeginsMember-plain (codes "file") refl

pub returns-in-Guessed : goal.returns-in-Guessed
returns-in-Guessed c = BeginsMember-plain (codes "guessed") refl

pub returns-in-Header : goal.returns-in-Header
returns-in-Header c = BeginsMember-plain (codes "header") refl

pub returns-in-Label : goal.returns-in-Label
returns-in-Label c = BeginsMember-plain (codes "label") refl

pub returns-in-Name : goal.returns-in-Name
returns-in-Name c = BeginsMember-plain (codes "name") refl

pub returns-in-NotDer : goal.returns-in-NotDer
returns-in-NotDer c = BeginsMember-plain (codes "not_der") refl

pub returns-in-Octets : goal.returns-in-Octets
returns-in-Octets c = BeginsMember-plain (codes "octets") refl

pub returns-in-Of : goal.returns-in-Of
returns-in-Of c = BeginsMember-plain (codes "of") refl

pub returns-in-Offset : goal.returns-in-Offset
returns-in-Offset c = BeginsMember-plain (codes "offset") refl

pub returns-in-Path : goal.returns-in-Path
returns-in-Path c = BeginsMember-plain (codes "path") refl

pub returns-in-Rule : goal.returns-in-Rule
returns-in-Rule c = BeginsMember-plain (codes "rule") refl

pub returns-in-Section : goal.returns-in-Section
returns-in-Section c = BeginsMember-plain (codes "section") refl

pub returns-in-Shown : goal.returns-in-Shown
returns-in-Shown c = BeginsMember-plain (codes "shown") refl

pub returns-in-Size : goal.returns-in-Size
returns-in-Size c = BeginsMember-plain (codes "size") refl

pub returns-in-Tag : goal.returns-in-Tag
returns-in-Tag c = BeginsMember-plain (codes "tag") refl

pub returns-in-Text : goal.returns-in-Text
returns-in-Text c = BeginsMember-plain (codes "text") refl

pub returns-in-Type : goal.returns-in-Type
returns-in-Type c = BeginsMember-plain (codes "type") refl

pub returns-in-Value : goal.returns-in-Value
returns-in-Value c = BeginsMember-plain (codes "value") refl
